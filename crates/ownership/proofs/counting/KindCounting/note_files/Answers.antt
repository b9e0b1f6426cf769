use Rattle.std.proofs.Common.{◌≡◌, ◌<◌, ◌∷◌, ◌++◌, [], length, map, set, sym, ap, ◌∙◌, subst, arith}
use Rattle.std.proofs.Math.Seq.{map-set_same}
use Rattle.std.proofs.lemmas.List.{length-map, length-set}
use Rattle.ownership.specs.declared.tally.Cell.{Cell}
use Rattle.ownership.specs.Counts.{TellTheSame}
use Rattle.ownership.specs.Noted.{notes_at, with_all_notes}
use Rattle.ownership.proofs.NoteLemmas.{length-noted, noted_has, noted_more, notes_pushed, on_err, same_again, there_more, within_more}
use Rattle.ownership.proofs.counting.KindCounting.note_files.Goals as goal

pub index_mut-requires : goal.index_mut-requires
index_mut-requires c =
    let all = length-noted c.self.inside.tallies.items (map (λ n. n.items) c.self.inside.notes.items) in
    omega (arith, c.requires.within, ap length c.self.view_is, all, c.self.invariant.len)

pub invariant_of-self : goal.invariant_of-self
invariant_of-self c =
    let notes = c.self.inside.notes.items in
    let alone : map (λ n. n.items) (set notes c.args.name c.push.new.self) ≡ map (λ n. n.items) notes =
    map-set_same (λ n. n.items) notes c.args.name c.push.new.self c.index_mut.result.now (c.in_err-push.ensures.items ∙ ap (λ n. n.items) c.index_mut.ensures.value) in
    record {
      len = length-set notes c.args.name c.push.new.self ∙ c.self.invariant.len;
      there = rw alone c.self.invariant.there;
      few = rw alone c.self.invariant.few;
    }

pub returns-in_err-push-clause-same : goal.returns-in_err-push-clause-same
returns-in_err-push-clause-same c =
    let ts = c.self.inside.tallies.items in
    let notes = c.self.inside.notes.items in
    let alone : map (λ n. n.items) (set notes c.args.name c.push.new.self) ≡ map (λ n. n.items) notes =
    map-set_same (λ n. n.items) notes c.args.name c.push.new.self c.index_mut.result.now (c.in_err-push.ensures.items ∙ ap (λ n. n.items) c.index_mut.ensures.value) in
    let same : TellTheSame (with_all_notes ts (map (λ n. n.items) notes)) (with_all_notes ts (map (λ n. n.items) (set notes c.args.name c.push.new.self))) =
    subst (λ ns. TellTheSame (with_all_notes ts (map (λ n. n.items) notes)) (with_all_notes ts ns)) (sym alone) (same_again (with_all_notes ts (map (λ n. n.items) notes))) in
    rw (← c.self.view_is) (on_err c.from_residual.result same)

pub invariant_of-self-2 : goal.invariant_of-self-2
invariant_of-self-2 c =
    let ts = c.self.inside.tallies.items in
    let notes = c.self.inside.notes.items in
    let k = c.args.name in
    let cell : Cell = record { number = c.args.number; files = c.args.files } in
    let len : length (map (λ n. n.items) notes) ≡ length ts = length-map notes (λ n. n.items) ∙ c.self.invariant.len in
    let h : k < length notes = omega (arith, c.requires.within, ap length c.self.view_is, length-noted ts (map (λ n. n.items) notes), c.self.invariant.len) in
    let h' : k < length (map (λ n. n.items) notes) = omega (arith, h, length-map notes (λ n. n.items)) in
    let pushed = notes_pushed (λ n. n.items) notes k c.push.new.self c.index_mut.result.now cell h (c.in_ok-push.ensures.items ∙ ap (λ n. n.items ++ cell ∷ []) c.index_mut.ensures.value) in
    let there = noted_has ts (map (λ n. n.items) notes) k c.args.number len (rw (← c.self.view_is) at c.requires.there) in
    let more = noted_more ts (map (λ n. n.items) notes) k cell len h' there in
    record {
      len = length-set notes k c.push.new.self ∙ c.self.invariant.len;
      there = rw pushed (there_more ts (map (λ n. n.items) notes) k cell h' there c.self.invariant.there);
      few = rw pushed (within_more (with_all_notes ts (map (λ n. n.items) notes)) (with_all_notes ts (set (map (λ n. n.items) notes) k (notes_at (map (λ n. n.items) notes) k ++ cell ∷ []))) k c.args.number c.args.files 2147483648 more
          c.self.invariant.few (rw (← c.self.view_is) at c.requires.kept) (rw (← c.self.view_is) at c.requires.total));
    }

pub returns-clause-more : goal.returns-clause-more
returns-clause-more c =
    let ts = c.self.inside.tallies.items in
    let notes = c.self.inside.notes.items in
    let k = c.args.name in
    let cell : Cell = record { number = c.args.number; files = c.args.files } in
    let len : length (map (λ n. n.items) notes) ≡ length ts = length-map notes (λ n. n.items) ∙ c.self.invariant.len in
    let h : k < length notes = omega (arith, c.requires.within, ap length c.self.view_is, length-noted ts (map (λ n. n.items) notes), c.self.invariant.len) in
    let h' : k < length (map (λ n. n.items) notes) = omega (arith, h, length-map notes (λ n. n.items)) in
    let pushed = notes_pushed (λ n. n.items) notes k c.push.new.self c.index_mut.result.now cell h (c.in_ok-push.ensures.items ∙ ap (λ n. n.items ++ cell ∷ []) c.index_mut.ensures.value) in
    let there = noted_has ts (map (λ n. n.items) notes) k c.args.number len (rw (← c.self.view_is) at c.requires.there) in
    rw (← c.self.view_is) (rw pushed (noted_more ts (map (λ n. n.items) notes) k cell len h' there))
