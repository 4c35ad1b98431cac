-- The attempt at the place behind the reports is the next one, at the next of the names, and where
-- it had a link it had the next of the links.
use Rattle.std.proofs.Common.{◌≡◌, ◌+◌, ◌∷◌, [], ◌++◌, ◌∙◌, List, ℕ, ap, sym, subst, arith, Some, vec_len, drop}
use Rattle.std.specs.List.{slice_get}
use Rattle.std.proofs.lemmas.List.{drop-drop}
use Rattle.std.proofs.lemmas.Option.{slice_get_within}
use Rattle.relay_connector.specs.declared.connector.Returned.{Returned}
use Rattle.relay_connector.specs.ScriptConnector.{AnyScript}
use Rattle.relay_command.specs.Exchange.{attempt_report, attempt_reports, first_name, left_by, sent_by, sents_of, StartWithin}
use Rattle.relay_command.specs.declared.report.AttemptReport.{AttemptReport}
use Rattle.relay_command.proofs.ExchangeLemmas.{reports_more, sents_left, start_left}
use Rattle.relay_command.proofs.exchange.attempt_reports.Goals as goal

pub take_sent-requires : goal.take_sent-requires
take_sent-requires c = c.loop-attempt.invariant.3

pub loop-attempt-preserved : goal.loop-attempt-preserved
loop-attempt-preserved c =
    let attempts = c.args.attempts.now in
    let before = c.loop-attempt.reports in
    let names = c.loop-attempt.names.items in
    let links = c.loop-attempt.rest.now in
    let sents = sents_of links in
    let n = vec_len before in
    let a = c.in-Some.attempt.now in
    let taken = c.in_ok-sent.ensures in
    let here : slice_get attempts n ≡ Some a =
    ap (slice_get attempts) (sym c.len.ensures) ∙ c.in-Some.ensures.value in
    let len : vec_len c.push.new.self ≡ n + 1 = c.in_ok-push.ensures.len in
    let report : c.attempt_report-report.result
    ≡ attempt_report (first_name names) (sent_by a.fault sents) a =
    c.attempt_report-report.ensures
    ∙ ap (λ (name : List ℕ). attempt_report name c.in_ok-sent.sent a) c.take_name.ensures.name
    ∙ ap (λ (bytes : List ℕ). attempt_report (first_name names) bytes a) taken.0 in
    let items : c.push.new.self.items ≡ before.items
    ++ attempt_report (first_name names) (sent_by a.fault sents) a ∷ [] =
    c.in_ok-push.ensures.items
    ∙ ap (λ (r : AttemptReport). before.items ++ r ∷ []) report in
    let left : sents_of c.in_ok-sent.behind.now ≡ left_by a.fault sents =
    ap (λ (rs : List (Returned AnyScript)). sents_of rs) taken.1 ∙ sents_left a.fault links in (
      omega (arith, len, slice_get_within attempts n a here),
      ap (λ (k : ℕ). c.push.new.self.items
          ++ attempt_reports c.take_name.new.names.items (sents_of c.in_ok-sent.behind.now)
          (drop k attempts)) len
          ∙ ap (λ (ns : List (List ℕ)). c.push.new.self.items
          ++ attempt_reports ns (sents_of c.in_ok-sent.behind.now)
          (drop (n + 1) attempts)) c.take_name.ensures.left
          ∙ ap (λ (ss : List (List ℕ)). c.push.new.self.items
          ++ attempt_reports (drop 1 names) ss (drop (n + 1) attempts)) left
          ∙ ap (λ (rs : List AttemptReport). rs
          ++ attempt_reports (drop 1 names) (left_by a.fault sents) (drop (n + 1) attempts)) items
          ∙ reports_more names sents before.items attempts n a here
          ∙ c.loop-attempt.invariant.1,
      c.take_name.ensures.left
          ∙ ap (λ (ns : List (List ℕ)). drop 1 ns) c.loop-attempt.invariant.2
          ∙ drop-drop 1 n c.args.names.now.items
          ∙ ap (λ (k : ℕ). drop k c.args.names.now.items) (sym len),
      subst (λ (rs : List (Returned AnyScript)). StartWithin rs) (sym taken.1)
          (start_left a.fault links c.loop-attempt.invariant.3),
    )
