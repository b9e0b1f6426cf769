-- Runs of a plan, call by call, the first call first, and whether they are lawful.
-- Sources: chown(2), by which a change of its owner clears the set-user-ID bit of a program. The
-- calls and their order are this project's own rule.
use Rattle.std.specs.Prelude.{ℕ, Bool, true, false, List, [], ◌∷◌, ◌++◌, None, Some}
use Rattle.std.specs.Prelude.{codes, reverse}
use Rattle.reown_plan.specs.declared.plan.Owner.{Owner}
use Rattle.reown_plan.specs.PlanData.{PlanRecord}
use Rattle.reown_files.specs.Calls.{Called, Met, MetMark, CheckedLinks, Gave, SetMode, Kept}
use Rattle.reown_files.specs.Calls.{Settled, PutMark, KeptMark, ReadModes, LostMode, PutModes}
use Rattle.reown_files.specs.Examples.{plan}
use Rattle.reown_files.specs.Lawful.{is_lawful}

-- ---- a plan of two files

abbrev pub old : Owner
old = record { uid = 100; gid = 10 }

abbrev pub new : Owner
new = record { uid = 200; gid = 20 }

abbrev pub foreign : Owner
foreign = record { uid = 200; gid = 30 }

abbrev pub given_new : List ℕ → PlanRecord
given_new path = record { before = old; after = new; path = path }

-- a program that is run as its owner, of mode 4755
abbrev pub program : PlanRecord
program = given_new (codes "su")

-- a file of mode 0644
abbrev pub note : PlanRecord
note = given_new (codes "note")

-- the calls are lawful for a plan with these records
abbrev pub is_run : List PlanRecord → List Called → Bool
is_run records calls = is_lawful plan records (reverse calls)

-- ---- its calls

-- the mark is not there, nor are modes that an earlier run wrote down
abbrev pub mark_met : Called
mark_met = MetMark plan false

abbrev pub none_written : Called
none_written = ReadModes plan false (Some false)

abbrev pub met : PlanRecord → Called
met r = Met r.path new (Some old)

abbrev pub links_seen : PlanRecord → Called
links_seen r = CheckedLinks r.path true

abbrev pub none_lost : PlanRecord → Called
none_lost r = LostMode plan r.path new None

abbrev pub modes_put : Called
modes_put = PutModes plan true

-- a file that is given an owner, with its mode before and after: 4755 and 0755, and 0644
abbrev pub program_given : Owner → Called
program_given owner = Gave program.path old owner (Some (record { before = 2541; after = 493 }))

abbrev pub note_given : Called
note_given = Gave note.path old new (Some (record { before = 420; after = 420 }))

abbrev pub mode_set : Owner → ℕ → Called
mode_set owner mode = SetMode program.path owner mode true

abbrev pub kept : PlanRecord → Called
kept r = Kept r.path new true

abbrev pub settled : Called
settled = Settled true

abbrev pub mark_put : Called
mark_put = PutMark plan true

abbrev pub mark_kept : Called
mark_kept = KeptMark true

-- ---- the first run for one file

-- all that is asked before the first change of one file, and after the last
abbrev pub opened : PlanRecord → List Called
opened r =
    mark_met ∷ none_written ∷ met r ∷ links_seen r ∷ none_lost r ∷ settled ∷ modes_put ∷ []

abbrev pub ended : PlanRecord → List Called
ended r = kept r ∷ settled ∷ mark_put ∷ mark_kept ∷ []

abbrev pub run_of_note : List Called
run_of_note = opened note ++ note_given ∷ ended note

-- the program loses the bit with its old owner, and has its mode set right after that
abbrev pub run_of_program : List Called
run_of_program = opened program ++ program_given new ∷ mode_set new 2541 ∷ ended program

-- ---- with one call left out, before the file is changed

-- the last calls of a run for the program
abbrev pub rest : List Called
rest = program_given new ∷ mode_set new 2541 ∷ ended program

abbrev pub unread : List Called
unread =
    mark_met ∷ met program ∷ links_seen program ∷ none_lost program ∷ settled ∷ modes_put ∷ rest

abbrev pub unmet : List Called
unmet =
    mark_met ∷ none_written ∷ links_seen program ∷ none_lost program ∷ settled ∷ modes_put ∷ rest

abbrev pub unchecked : List Called
unchecked =
    mark_met ∷ none_written ∷ met program ∷ none_lost program ∷ settled ∷ modes_put ∷ rest

abbrev pub unasked : List Called
unasked =
    mark_met ∷ none_written ∷ met program ∷ links_seen program ∷ settled ∷ modes_put ∷ rest

abbrev pub unsettled : List Called
unsettled =
    mark_met ∷ none_written ∷ met program ∷ links_seen program ∷ none_lost program ∷ modes_put
    ∷ rest

abbrev pub unwritten : List Called
unwritten =
    mark_met ∷ none_written ∷ met program ∷ links_seen program ∷ none_lost program ∷ settled ∷ rest

-- or two exchanged: its links are looked for before it is met
abbrev pub met_late : List Called
met_late =
    mark_met ∷ none_written ∷ links_seen program ∷ met program ∷ none_lost program ∷ settled
    ∷ modes_put ∷ rest

-- or its name is counted twice
abbrev pub met_twice : List Called
met_twice =
    mark_met ∷ none_written ∷ met program ∷ met program ∷ links_seen program ∷ none_lost program
    ∷ settled ∷ modes_put ∷ rest

-- or its mode is not noted, as that of a file which is to have its old owner
abbrev pub met_for_the_old_owner : List Called
met_for_the_old_owner =
    mark_met ∷ none_written ∷ Met program.path old (Some old) ∷ links_seen program
    ∷ none_lost program ∷ settled ∷ modes_put ∷ rest

-- ---- with one call left out or another, after that

abbrev pub mode_left : List Called
mode_left = opened program ++ program_given new ∷ ended program

abbrev pub other_mode : List Called
other_mode = opened program ++ program_given new ∷ mode_set new 493 ∷ ended program

abbrev pub mode_of_the_old_owner : List Called
mode_of_the_old_owner = opened program ++ program_given new ∷ mode_set old 2541 ∷ ended program

abbrev pub failed_mode : List Called
failed_mode =
    opened program ++ program_given new ∷ SetMode program.path new 2541 false ∷ ended program

abbrev pub given_to_another : List Called
given_to_another =
    opened program ++ program_given foreign ∷ mode_set foreign 2541 ∷ ended program

abbrev pub not_kept : List Called
not_kept =
    opened program
    ++ program_given new ∷ mode_set new 2541 ∷ settled ∷ mark_put ∷ mark_kept ∷ []

abbrev pub not_settled : List Called
not_settled =
    opened program
    ++ program_given new ∷ mode_set new 2541 ∷ kept program ∷ mark_put ∷ mark_kept ∷ []

abbrev pub settled_before_kept : List Called
settled_before_kept =
    opened program
    ++ program_given new ∷ mode_set new 2541 ∷ settled ∷ kept program ∷ mark_put ∷ mark_kept ∷ []

-- ---- for both files

abbrev pub both : List PlanRecord
both = note ∷ program ∷ []

abbrev pub opened_for_both : List Called
opened_for_both =
    mark_met ∷ none_written ∷ met note ∷ met program ∷ links_seen note ∷ links_seen program
    ∷ none_lost note ∷ none_lost program ∷ settled ∷ modes_put ∷ []

abbrev pub run_of_both : List Called
run_of_both =
    opened_for_both
    ++ note_given ∷ program_given new ∷ mode_set new 2541 ∷ kept note ∷ ended program

-- the mark is put before the last change
abbrev pub marked_early : List Called
marked_early =
    opened_for_both
    ++ note_given ∷ kept note ∷ settled ∷ mark_put ∷ program_given new ∷ mode_set new 2541
    ∷ kept program ∷ settled ∷ mark_kept ∷ []

-- the links of the first are looked for before the second is met
abbrev pub links_between : List Called
links_between =
    mark_met ∷ none_written ∷ met note ∷ links_seen note ∷ met program ∷ links_seen program
    ∷ none_lost note ∷ none_lost program ∷ settled ∷ modes_put
    ∷ note_given ∷ program_given new ∷ mode_set new 2541 ∷ kept note ∷ ended program

-- ---- a second run for the program, which a stop has left at its new owner without the bit

abbrev pub again : List Called
again =
    mark_met ∷ ReadModes plan false (Some true) ∷ Met program.path new (Some new)
    ∷ links_seen program
    ∷ LostMode plan program.path new (Some 2541) ∷ []

abbrev pub written_again : List Called
written_again = settled ∷ modes_put ∷ ended program

abbrev pub second_run : List Called
second_run = again ++ mode_set new 2541 ∷ kept program ∷ written_again

abbrev pub not_set_back : List Called
not_set_back = again ++ kept program ∷ written_again

abbrev pub set_back_for_the_old_owner : List Called
set_back_for_the_old_owner = again ++ mode_set old 2541 ∷ kept program ∷ written_again

abbrev pub set_back_and_not_kept : List Called
set_back_and_not_kept = again ++ mode_set new 2541 ∷ written_again
