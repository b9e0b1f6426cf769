use Rattle.std.proofs.Common.{◌≡◌, ℕ, Option, Some, true, false, sym, ap, subst, ◌∙◌}
use Rattle.std.specs.BTreeMap.{BTreeMap, Updates}
use Rattle.std.specs.Option.{is_some}
use Rattle.reown_files.specs.declared.names.Names.{Names}
use Rattle.reown_files.specs.Asked.{names_of, one_less}
use Rattle.reown_files.specs.Looks.{FileId, id_of, has_several_names}
use Rattle.reown_files.specs.Trees.{names_at, id_cmp}
use Rattle.reown_files.proofs.NamesLemmas.{awaited_less, awaited_none, awaited_single}
use Rattle.reown_files.proofs.files.Files.waits.Goals as goal
use Rattle.reown_files.proofs.files.Files.waits.Goals.{then-has_several_names+in-Some, then-has_several_names+in_default, else-has_several_names}

pub invariant_of-self : goal.invariant_of-self
invariant_of-self c =
    let found = c.args.found.now in
    let id = id_of found in
    let tree = c.self.inside.names in
    let asked = c.self.inside.log.asked in
    elim c.if-has_several_names.branch [
      | then-has_several_names+in-Some w ↦
          let several : has_several_names found ≡ true = sym c.has_several_names.ensures ∙ w.if-has_several_names.true in
          let names = w.in-Some.names.now in
          let less : Names = record names { left = w.saturating_sub-names.result } in
          let there = sym w.in-Some.ensures.value in
          let here : names_of id asked ≡ Some names = sym (c.self.invariant.0 id) ∙ ap (names_at tree) (sym w.id_of.ensures) ∙ there in
          let written = (w.get_mut.follows.holds less).3 (ap (λ (o : Option Names). is_some o) there) in
          let updates : Updates id_cmp tree (w.get_mut.follows.lender less) id (Some less) = subst (λ (i : FileId). Updates id_cmp tree (w.get_mut.follows.lender less) i (Some less)) w.id_of.ensures written in
          let is : less ≡ one_less names = ap (λ (n : ℕ). (let x : Names = record names { left = n } in x)) w.saturating_sub-names.ensures in
          rw (c.note.ensures, w.self-inside-is) (
            awaited_less tree asked c.self.invariant.0 found several (w.get_mut.follows.lender less) less updates names here is,
            c.self.invariant.1,
          )
      | then-has_several_names+in_default w ↦
          rw (c.note.ensures, w.self-inside-is) (
            λ q. ap (λ (m : BTreeMap FileId Names). names_at m q) w.get_mut.follows.holds-at-none
                ∙ awaited_none tree asked c.self.invariant.0 found (sym (c.self.invariant.0 id) ∙ ap (names_at tree) (sym w.id_of.ensures) ∙ sym w.in_default.ensures.value) q,
            c.self.invariant.1,
          )
      | else-has_several_names w ↦
          let single : has_several_names found ≡ false = sym c.has_several_names.ensures ∙ w.if-has_several_names.false in
          rw (c.note.ensures, w.self-inside-is) (
            awaited_single tree asked c.self.invariant.0 found single,
            c.self.invariant.1,
          )
    ]
