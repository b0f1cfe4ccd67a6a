use Rattle.std.proofs.Common.{ap}
use Rattle.words.specs.Words.{provided}
use Rattle.words.proofs.Saying.{no_name}
use Rattle.words.proofs.literal.name.Goals as goal
use Rattle.words.proofs.literal.name.Goals.{in_default-via-in-Ok+else-is_name, in_default-via-in_default}

pub returns-in_default : goal.returns-in_default
returns-in_default c =
    elim c.in_default.branch [
      | in_default-via-in-Ok+else-is_name w ↦ ap (λ b. provided b c.args.word.now) w.if-is_name.ensures
      | in_default-via-in_default w ↦ no_name c.args.word.now w.in_default.ensures.cases.0
    ]
