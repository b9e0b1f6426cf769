use Rattle.std.proofs.Common.{arith}
use Rattle.idtext.proofs.EscapeLemmas.{characters-rest}
use Rattle.idtext.proofs.escapes.first_character.Goals as goal

pub returns-clause-characters : goal.returns-clause-characters
returns-clause-characters c =
    let front = c.front_of-character.ensures in
    characters-rest c.args.text.now c.front_of-character.result.0 c.front_of-character.result.1 (omega (arith, front.some, front.within)) front.character front.taken front.some
