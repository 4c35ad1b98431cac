-- A line more is kept where so many are not.
use Rattle.std.proofs.Common.{◌++◌, ◌∷◌, [], List, ap, ◌∙◌, arith}
use Rattle.relay_tasks.specs.declared.log_line.LogLine.{LogLine}
use Rattle.relay_tasks.proofs.LogLemmas.{line_left, line_more}
use Rattle.relay_tasks.proofs.phase_log.keep_line.Goals as goal

pub returns-in_ok-make_room-clause-ok : goal.returns-in_ok-make_room-clause-ok
returns-in_ok-make_room-clause-ok c =
    c.push_reserved.ensures.items
    ∙ ap (λ (l : List LogLine). l ++ c.line_of.result ∷ []) c.make_room.ensures.same
    ∙ ap (λ (line : LogLine). c.args.lines.now.items ++ line ∷ []) c.line_of.ensures
    ∙ line_more _ _ (omega arith)

pub returns-else-len-lt-MOST_LINES-clause-ok : goal.returns-else-len-lt-MOST_LINES-clause-ok
returns-else-len-lt-MOST_LINES-clause-ok c = line_left _ _ c.requires (omega arith)
