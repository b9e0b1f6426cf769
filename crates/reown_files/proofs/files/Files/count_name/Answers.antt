use Rattle.std.proofs.Common.{◌≡◌, ◌⊎◌, Option, Some, true, false, sym, ap, subst, ◌∙◌, rules}
use Rattle.std.proofs.lemmas.Bool.{true≢false}
use Rattle.std.specs.BTreeMap.{Updates, is_at}
use Rattle.std.specs.Map.{lookup}
use Rattle.reown_files.specs.declared.answers.Trouble.TheVariants.{Memory, LinkedOtherwise}
use Rattle.reown_files.specs.declared.names.Names.{Names}
use Rattle.reown_files.specs.Asked.{names_of, IsOtherwise, with_name}
use Rattle.reown_files.specs.Looks.{FileId, id_of, has_several_names}
use Rattle.reown_files.specs.Trees.{names_at, id_cmp}
use Rattle.reown_files.proofs.NamesLemmas.{counted_more, counted_single, counted_paths, kept_paths, more_paths}
use Rattle.reown_files.proofs.files.Files.count_name.Goals as goal
use Rattle.reown_files.proofs.files.Files.count_name.Goals.{then-has_several_names+in_ok-names+in_ok-from_slice+in_ok-insert+in_ok-insert-2, else-has_several_names}

pub returns-in_err-names-clause-refused : goal.returns-in_err-names-clause-refused
returns-in_err-names-clause-refused c =
    let id = id_of c.args.found.now in
    let tree = c.self.inside.names in
    let known : c.copied.result ≡ names_of id c.args.self.now =
    c.copied.ensures ∙ c.get.ensures.value ∙ ap (names_at tree) c.id_of-id.ensures ∙ c.self.invariant.0 id ∙ ap (names_of id) c.self.view_is in
    let refused = subst (λ (names : Option Names). (c.in_err-names.field-0.0 ≡ Memory) ⊎ ((c.in_err-names.field-0.0 ≡ LinkedOtherwise) × IsOtherwise c.args.after names)) known c.in_err-names.ensures.refused in
    search (rules, refused)

pub returns-clause-one : goal.returns-clause-one
returns-clause-one c =
    let found = c.args.found.now in
    let id = id_of found in
    let tree = c.self.inside.names in
    elim c.if-has_several_names.branch [
      | then-has_several_names+in_ok-names+in_ok-from_slice+in_ok-insert+in_ok-insert-2 w ↦ λ several otherwise.
          let known : w.copied.result ≡ names_of id c.args.self.now =
          w.copied.ensures ∙ w.get.ensures.value ∙ ap (names_at tree) w.id_of-id.ensures ∙ c.self.invariant.0 id ∙ ap (names_of id) c.self.view_is in
          w.in_ok-names.ensures.one (subst (IsOtherwise c.args.after) (sym known) otherwise)
      | else-has_several_names w ↦ λ several otherwise.
          let single : has_several_names found ≡ false = sym c.has_several_names.ensures ∙ w.if-has_several_names.false in
          absurd (true≢false (sym several ∙ single))
    ]

pub invariant_of-self-in_err-insert-2 : goal.invariant_of-self-in_err-insert-2
invariant_of-self-in_err-insert-2 c = (
  λ id. ap (lookup (is_at (id_cmp id))) c.in_err-insert-2.ensures.err ∙ c.self.invariant.0 id,
  more_paths c.self.inside.paths.keys c.insert.new.self.keys _ c.self.inside.log.asked c.in_ok-insert.ensures.keys c.self.invariant.1,
)

pub invariant_of-self-2 : goal.invariant_of-self-2
invariant_of-self-2 c =
    let found = c.args.found.now in
    let path = c.args.path.now in
    let after = c.args.after in
    let id = id_of found in
    let tree = c.self.inside.names in
    let asked = c.self.inside.log.asked in
    elim c.if-has_several_names.branch [
      | then-has_several_names+in_ok-names+in_ok-from_slice+in_ok-insert+in_ok-insert-2 w ↦
          let several : has_several_names found ≡ true = sym c.has_several_names.ensures ∙ w.if-has_several_names.true in
          let known : w.copied.result ≡ names_of id asked = w.copied.ensures ∙ w.get.ensures.value ∙ ap (names_at tree) w.id_of-id.ensures ∙ c.self.invariant.0 id in
          let next = w.insert-then-has_several_names.new.self in
          let more = w.in_ok-names.names in
          let updates : Updates id_cmp tree next id (Some more) = subst (λ (i : FileId). Updates id_cmp tree next i (Some more)) w.id_of-id.ensures w.in_ok-insert-2.ensures.updates in
          rw (c.note.ensures, w.self-inside-is) (
            counted_more tree asked c.self.invariant.0 found several next more updates path after (w.in_ok-names.ensures.more ∙ ap (with_name after) known),
            counted_paths c.self.inside.paths.keys w.insert.new.self.keys _ asked path found after w.in_ok-from_slice.ensures.items w.in_ok-insert.ensures.keys c.self.invariant.1,
          )
      | else-has_several_names w ↦
          let single : has_several_names found ≡ false = sym c.has_several_names.ensures ∙ w.if-has_several_names.false in
          rw (c.note.ensures, w.self-inside-is) (
            counted_single tree asked c.self.invariant.0 found single path after,
            kept_paths c.self.inside.paths.keys asked path found after single c.self.invariant.1,
          )
    ]
