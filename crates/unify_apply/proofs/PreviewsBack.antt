-- What a disk on which a run is tried asks of the disk below.
use Rattle.std.proofs.Common.{◌≡◌, true, Option, Some, None, refl, sym, ap, ◌∙◌, true≢false}
use Rattle.reown_files.specs.Calls.{Called, Looked, Met, MetMark, Saw, SawMark, NotSeen, MarkNotSeen, CheckedLinks, Gave, SetMode, Kept, Settled, PutMark, KeptMark, ReadModes, LostMode, PutModes}
use Rattle.unify_apply.specs.Previews.{asked_below, only_looks}
use Rattle.unify_apply.specs.PreviewLaws.{PreviewsOnlyLook}

abbrev inside : Called → Option Called → Called
inside call None = call
inside call (Some asked) = asked

none : (asked : Called) → ◌≡◌ {A = Option Called} None (Some asked) → only_looks asked ≡ true
none asked e = absurd (cc)

looked : (call asked : Called) → only_looks call ≡ true → Some call ≡ Some asked → only_looks asked ≡ true
looked call asked looks e = sym (ap only_looks (ap (inside call) e)) ∙ looks

asked-looks : (call asked : Called) → asked_below call ≡ Some asked → only_looks asked ≡ true
asked-looks (Looked path seen) asked e = looked (Looked path seen) asked refl e
asked-looks (Met path after found) asked e = looked (Met path after found) asked refl e
asked-looks (MetMark plan set) asked e = looked (SawMark plan set) asked refl e
asked-looks (Saw path found) asked e = looked (Saw path found) asked refl e
asked-looks (SawMark plan set) asked e = looked (SawMark plan set) asked refl e
asked-looks (NotSeen path trouble) asked e = looked (NotSeen path trouble) asked refl e
asked-looks (MarkNotSeen plan trouble) asked e = looked (MarkNotSeen plan trouble) asked refl e
asked-looks (CheckedLinks path done) asked e = looked (CheckedLinks path done) asked refl e
asked-looks (ReadModes plan set begun) asked e = looked (ReadModes plan set begun) asked refl e
asked-looks (LostMode plan path owner mode) asked e = looked (LostMode plan path owner mode) asked refl e
asked-looks (Gave path before after modes) asked e = none asked e
asked-looks (SetMode path owner mode done) asked e = none asked e
asked-looks (Kept path owner done) asked e = none asked e
asked-looks (Settled done) asked e = none asked e
asked-looks (PutMark plan done) asked e = none asked e
asked-looks (KeptMark done) asked e = none asked e
asked-looks (PutModes plan done) asked e = none asked e

as-it-is : (call : Called) → only_looks call ≡ true → asked_below call ≡ Some call
as-it-is (Looked path seen) e = refl
as-it-is (Met path after found) e = refl
as-it-is (MetMark plan set) e = absurd (true≢false (sym e))
as-it-is (Saw path found) e = refl
as-it-is (SawMark plan set) e = refl
as-it-is (NotSeen path trouble) e = refl
as-it-is (MarkNotSeen plan trouble) e = refl
as-it-is (CheckedLinks path done) e = refl
as-it-is (ReadModes plan set begun) e = refl
as-it-is (LostMode plan path owner mode) e = refl
as-it-is (Gave path before after modes) e = absurd (true≢false (sym e))
as-it-is (SetMode path owner mode done) e = absurd (true≢false (sym e))
as-it-is (Kept path owner done) e = absurd (true≢false (sym e))
as-it-is (Settled done) e = absurd (true≢false (sym e))
as-it-is (PutMark plan done) e = absurd (true≢false (sym e))
as-it-is (KeptMark done) e = absurd (true≢false (sym e))
as-it-is (PutModes plan done) e = absurd (true≢false (sym e))

pub only-look : PreviewsOnlyLook
only-look = record {
  only = asked-looks;
  looks = as-it-is;
  mark = λ plan set. refl;
  gave = λ path before after modes. refl;
  set_mode = λ path owner mode done. refl;
  kept = λ path owner done. refl;
  settled = λ done. refl;
  put_modes = λ plan done. refl;
  put_mark = λ plan done. refl;
  kept_mark = λ done. refl;
}
