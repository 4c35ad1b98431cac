-- What is kept is that of the entries with one more.
use Rattle.std.proofs.Common.{◌≡◌, ◌++◌, ◌∷◌, [], ℕ, List, length, take, map, sym, ap, ◌∙◌, ◌≤◌, subst}
use Rattle.std.proofs.lemmas.List.{map-append}
use Rattle.std.specs.declared.snapshot.Snapshot.{Snapshot}
use Rattle.relay_tasks.specs.declared.log.LogEntry.{LogEntry}
use Rattle.relay_tasks.specs.declared.log_line.LogLine.{LogLine}
use Rattle.relay_tasks.specs.Log.{delays_of, line_of, lines_of, list_of, most_lines}
use Rattle.relay_tasks.proofs.LogLemmas.{delays_on, few_lines, lines_on}
use Rattle.relay_tasks.proofs.phase_log.PhaseLog.push.Goals as goal

pub keep_line-requires : goal.keep_line-requires
keep_line-requires c =
    subst (λ (l : List LogLine). length l ≤ most_lines) (sym c.self.invariant.0)
    (few_lines (map (λ (call : Snapshot LogEntry). call.value) c.self.inside.calls.items))

pub invariant_of-self-2 : goal.invariant_of-self-2
invariant_of-self-2 c =
    let value : Snapshot LogEntry → LogEntry = λ call. call.value in
    let entries : List LogEntry = map value c.self.inside.calls.items in
    let e : LogEntry = c.args.entry in
    let calls : map value c.push_reserved.new.self.items ≡ entries ++ e ∷ [] =
    ap (map value) (c.push_reserved.ensures.items
    ∙ ap (λ (l : List (Snapshot LogEntry)). l ++ c.of.result ∷ []) c.make_room.ensures.same)
    ∙ map-append value c.self.inside.calls.items (c.of.result ∷ [])
    ∙ ap (λ (x : LogEntry). entries ++ x ∷ []) c.of.ensures in (
      c.in_ok-keep_line.ensures.ok
          ∙ ap (λ (l : List LogLine). take most_lines (l ++ line_of e ∷ [])) c.self.invariant.0
          ∙ lines_on entries e ∙ ap lines_of (sym calls),
      c.keep_delay.ensures
          ∙ ap (λ (l : List ℕ). l ++ list_of e.delay)
          (c.make_delay_room.ensures.same ∙ c.self.invariant.1)
          ∙ delays_on entries e ∙ ap delays_of (sym calls),
    )
