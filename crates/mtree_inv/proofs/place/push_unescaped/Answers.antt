use Rattle.std.proofs.Common.{◌≡◌, true, not, vec_len, sym, ap, ◌∙◌, subst}
use Rattle.std.proofs.lemmas.Bool.{eqb-true}
use Rattle.std.specs.Prelude.{IfOk, ◌==◌}
use Rattle.mtree_inv.proofs.ParentLemmas.{front-none}
use Rattle.mtree_inv.proofs.UnescapedLemmas.{full-plain, pieces-begun, pieces-same, nul-bad, names-begun, name-alone, name-last, last-piece-bad, last-piece-path, simple-bad, simple-written}
use Rattle.mtree_inv.proofs.place.push_unescaped.Goals as goal

pub returns-then-contains-clause-bad : goal.returns-then-contains-clause-bad
returns-then-contains-clause-bad c = sym (ap not (nul-bad c.args.word.now c.requires.plain (sym c.contains.ensures.value ∙ c.if-contains.true)))

pub push_name-requires : goal.push_name-requires
push_name-requires c =
    name-last c.args.word.now (name-alone c.args.word.now (sym (full-plain c.args.word.now c.requires.plain) ∙ sym c.requires.full ∙ c.if-not-is_full.true))
    (names-begun c.args.word.now (sym c.contains.ensures.value ∙ c.if-contains.false))

pub returns-then-not-is_full-clause-bad : goal.returns-then-not-is_full-clause-bad
returns-then-not-is_full-clause-bad c =
    subst (λ bad. IfOk c.push_name.result (λ lawful. lawful ≡ not bad))
    (last-piece-bad c.args.path.now.items c.args.word.now _ _ (name-alone c.args.word.now (sym (full-plain c.args.word.now c.requires.plain) ∙ sym c.requires.full ∙ c.if-not-is_full.true))
    (pieces-begun c.args.path.now.items c.args.word.now c.requires.plain))
    c.push_name.ensures.bad

pub returns-then-not-is_full-clause-path : goal.returns-then-not-is_full-clause-path
returns-then-not-is_full-clause-path c =
    subst (λ path. IfOk c.push_name.result (λ lawful. lawful ≡ true → c.push_name.new.path.items ≡ path))
    (last-piece-path c.args.path.now.items c.args.word.now _ _ (name-alone c.args.word.now (sym (full-plain c.args.word.now c.requires.plain) ∙ sym c.requires.full ∙ c.if-not-is_full.true))
    (pieces-begun c.args.path.now.items c.args.word.now c.requires.plain))
    c.push_name.ensures.path

pub keep-requires : goal.keep-requires
keep-requires c =
    let plain = sym c.without_dot-rest.ensures.backslash ∙ c.requires.plain in
    let no_nul = sym c.without_dot-rest.ensures.nul ∙ (sym c.contains.ensures.value ∙ c.if-contains.false) in
    record {
      simple = c.in-Some.ensures.parent;
      nul = front-none (λ b. b == 0) c.in-Some.parent_len c.without_dot-rest.result.now no_nul;
      backslash = front-none (λ b. b == 92) c.in-Some.parent_len c.without_dot-rest.result.now plain;
    }

pub returns-in-Some-clause-bad : goal.returns-in-Some-clause-bad
returns-in-Some-clause-bad c =
    let word = c.args.word.now in
    let same = c.without_dot-rest.ensures.parts in
    let read = pieces-same c.args.path.now.items word c.without_dot-rest.result.now _ _ same (pieces-begun c.args.path.now.items word c.requires.plain) in
    let names = same.separators ∙ names-begun word (sym c.contains.ensures.value ∙ c.if-contains.false) in
    sym (ap not (sym read.bad_is ∙ simple-bad c.without_dot-rest.result.now (sym c.in-Some.ensures.simple) names))

pub returns-in-Some-clause-path : goal.returns-in-Some-clause-path
returns-in-Some-clause-path c = λ _.
    simple-written c.args.path.now.items c.without_dot-rest.result.now c.extend_from_slice.new.self.items _ _
    (sym c.args.path.now.ok.0 ∙ eqb-true (vec_len c.args.path.now) 0 (sym c.is_empty.ensures ∙ c.if-is_empty.true)) (sym c.in-Some.ensures.simple)
    (pieces-same c.args.path.now.items c.args.word.now c.without_dot-rest.result.now _ _ c.without_dot-rest.ensures.parts (pieces-begun c.args.path.now.items c.args.word.now c.requires.plain))
    c.in_ok-extend_from_slice.ensures.items

pub loop-part-init : goal.loop-part-init
loop-part-init c =
    let same = c.without_dot-rest.ensures.parts in record {
      read = pieces-same c.args.path.now.items c.args.word.now c.without_dot-rest.result.now _ _ same (pieces-begun c.args.path.now.items c.args.word.now c.requires.plain);
      names = same.separators ∙ names-begun c.args.word.now (sym c.contains.ensures.value ∙ c.if-contains.false);
    }
