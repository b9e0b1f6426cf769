use Rattle.std.proofs.Common.{◌∙◌, ◌++◌, ◌∷◌, [], ℕ, List, Option, Some, cond, sym, ap}
use Rattle.std.specs.Option.{option_map, option_and_then}
use Rattle.std.specs.Str.{bytes_eq}
use Rattle.reown_files.specs.MarkText.{Entry, lines_read}
use Rattle.reown_files.specs.ModesNoted.{entry_of}
use Rattle.reown_files.specs.Trees.{mode_at}
use Rattle.reown_files.proofs.ReadModes.{last_counts, one_more, put_in}
use Rattle.reown_files.proofs.modes_file.read_lines.Goals as goal

pub loop-line-preserved : goal.loop-line-preserved
loop-line-preserved c =
    let before = c.loop-line.invariant.0 in
    let e = entry_of c.in_ok-path.field-0 in
    let rest = lines_read c.next.new.self in
    let read = c.loop-line.invariant.2 ∙ ap (λ ls. option_map (λ es. before ++ es) (lines_read ls)) c.in-Some.ensures.steps
    ∙ ap (λ (o : Option Entry). option_map (λ es. before ++ es) (option_and_then (λ (x : Entry). option_map (λ (es : List Entry). x ∷ es) rest) o)) c.in_ok-path.ensures
    ∙ one_more before e rest in (
      before ++ e ∷ [],
      λ path. ap (λ es. mode_at es path) c.in_ok-insert.ensures.entries
          ∙ put_in path c.in_ok-path.field-0.path c.in_ok-path.field-0.mode c.loop-line.modes.entries
          ∙ ap (λ (o : Option ℕ). cond (bytes_eq path e.0) (Some e.1) o) (c.loop-line.invariant.1 path)
          ∙ sym (last_counts before e path),
      read,
    )
