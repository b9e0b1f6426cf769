-- Which plan a mark is of.
-- Source: this project's own rule; the digest is SHA-256 (FIPS 180-4).
use Rattle.std.specs.Prelude.{ℕ, ◌-◌, ◌==◌, ◌&&◌, Bool, false, List, ◌++◌, Option, None, Some}
use Rattle.std.specs.Prelude.{length, replicate}
use Rattle.std.specs.Str.{bytes_eq}
use Rattle.sha2.specs.Sha256.{sha256}
use Rattle.reown_plan.specs.declared.mark.PlanMark.{PlanMark}
use Rattle.reown_plan.specs.PlanData.{PlanData}
use Rattle.reown_plan.specs.Spelling.{spelling}

-- a host's name, with zero bytes after it, 64 bytes in all
abbrev pub padded : List ℕ → List ℕ
padded name = name ++ replicate (64 - length name) 0

-- the mark of a plan: its host, and the length and the digest of its text
abbrev pub mark_of : PlanData → PlanMark
mark_of plan =
    record {
      host = padded plan.host;
      length = length (spelling plan);
      digest = sha256 (spelling plan);
    }

abbrev pub mark_eq : PlanMark → PlanMark → Bool
mark_eq a b = bytes_eq a.host b.host && (a.length == b.length) && bytes_eq a.digest b.digest

-- whether a tree with this mark, or with none, is marked for the plan that the first mark is of
abbrev pub is_marked_for : PlanMark → Option PlanMark → Bool
is_marked_for plan None = false
is_marked_for plan (Some mark) = mark_eq mark plan
