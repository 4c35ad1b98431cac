-- The attempts so far are reported, and so are those that are left, at the links that are; as many
-- names were taken.
use Rattle.std.proofs.Common.{◌≡◌, ◌-◌, ◌++◌, ◌≤◌, drop, length, vec_len}
use Rattle.relay_command.specs.Exchange.{attempt_reports, sents_of, StartWithin}
use Rattle.relay_command.proofs.exchange.attempt_reports.Given as goal

abbrev pub invariant-loop-attempt : goal.invariant-loop-attempt
invariant-loop-attempt l =
    (vec_len l.reports ≤ length l.attempts)
    × (l.reports.items
    ++ attempt_reports l.names.items (sents_of l.rest) (drop (vec_len l.reports) l.attempts)
    ≡ attempt_reports l.fn.names.items (sents_of l.fn.links) l.attempts)
    × (l.names.items ≡ drop (vec_len l.reports) l.fn.names.items)
    × StartWithin l.rest

abbrev pub decreases-loop-attempt : goal.decreases-loop-attempt
decreases-loop-attempt l = length l.attempts - vec_len l.reports
