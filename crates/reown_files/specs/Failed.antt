-- Which call on a disk has failed.
-- Source: this project's own rule.
use Rattle.std.specs.Prelude.{◌≡◌, ◌≢◌, ℕ, Bool, false, List, [], ◌∷◌, ◌++◌, Option, None}
use Rattle.reown_plan.specs.declared.mark.PlanMark.{PlanMark}
use Rattle.reown_plan.specs.declared.plan.Owner.{Owner}
use Rattle.reown_files.specs.declared.answers.Trouble.{Trouble}
use Rattle.reown_files.specs.Calls.{Called, Gave, Kept, Settled, SetMode, ReadModes, PutModes}
use Rattle.reown_files.specs.Calls.{CheckedLinks, NotSeen, MarkNotSeen, Saw, SawMark, PutMark}
use Rattle.reown_files.specs.Calls.{KeptMark}

-- such a call was made last
abbrev pub Last : (Called → Type 0) → List Called → Type 0
Last Is [] = ⊥
Last Is (call ∷ calls) = Is call

-- it was made on the file of this path, and failed; for this, where it was a look
abbrev pub FailsOn : List ℕ → Trouble → Called → Type 0
FailsOn path trouble (NotSeen q why) = (q ≡ path) × (why ≡ trouble)
FailsOn path trouble (CheckedLinks q done) = (q ≡ path) × (done ≡ false)
FailsOn path trouble (SetMode q owner mode done) = (q ≡ path) × (done ≡ false)
FailsOn path trouble (Kept q owner done) = (q ≡ path) × (done ≡ false)
FailsOn path trouble _ = ⊥

-- it was a look at the mark, which failed for this, or the sync of all, which failed
abbrev pub FailsOnDisk : Trouble → Called → Type 0
FailsOnDisk trouble (MarkNotSeen plan why) = why ≡ trouble
FailsOnDisk trouble (Settled done) = done ≡ false
FailsOnDisk trouble _ = ⊥

-- it was to read modes that were written down, or to write them down, and failed
abbrev pub FailsOnModes : Called → Type 0
FailsOnModes (ReadModes plan set begun) = begun ≡ None
FailsOnModes (PutModes plan done) = done ≡ false
FailsOnModes _ = ⊥

-- ---- after other calls

-- calls were made after these, and the last is such
abbrev pub AskedLast : (Called → Type 0) → List Called → List Called → Type 0
AskedLast Is old new =
    (more : List Called) × (call : Called) × (new ≡ (call ∷ more) ++ old) × Is call

-- the file of this path could not be looked at, or was seen at another owner than this
abbrev pub SeesOtherwise : List ℕ → Option Owner → Called → Type 0
SeesOtherwise path held (NotSeen q trouble) = q ≡ path
SeesOtherwise path held (Saw q found) = (q ≡ path) × (found ≢ held)
SeesOtherwise path held _ = ⊥

-- the mark of this plan could not be looked at, or was seen to be there or not, otherwise than this
abbrev pub SeesMarkOtherwise : PlanMark → Bool → Called → Type 0
SeesMarkOtherwise plan held (MarkNotSeen other trouble) = other ≡ plan
SeesMarkOtherwise plan held (SawMark other set) = (other ≡ plan) × (set ≢ held)
SeesMarkOtherwise plan held _ = ⊥

-- the file of this path was not given this owner, or not its mode after that
abbrev pub FailsToGive : List ℕ → Owner → Called → Type 0
FailsToGive path after (Gave q before to modes) = (q ≡ path) × (to ≡ after) × (modes ≡ None)
FailsToGive path after (SetMode q owner mode done) = (q ≡ path) × (owner ≡ after) × (done ≡ false)
FailsToGive path after _ = ⊥

-- the mark of this plan was not put
abbrev pub FailsToPut : PlanMark → Called → Type 0
FailsToPut plan (PutMark other done) = (other ≡ plan) × (done ≡ false)
FailsToPut plan _ = ⊥

-- the sync of all failed, or that of the mark
abbrev pub FailsToSettle : Called → Type 0
FailsToSettle (Settled done) = done ≡ false
FailsToSettle (KeptMark done) = done ≡ false
FailsToSettle _ = ⊥
