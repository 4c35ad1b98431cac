-- The next request is the one that the proxy ran over the links as they stood.
use Rattle.std.proofs.Common.{◌≡◌, ◌≢◌, ◌∙◌, List, sym, subst, ap, drop, length, refl, true≢false}
use Rattle.std.specs.List.{slice_range}
use Rattle.std.proofs.lemmas.Option.{same_Some}
use Rattle.std.proofs.lemmas.Result.{IfOk-weaker}
use Rattle.relay_connector.specs.ScriptEntries.{links_returned}
use Rattle.relay_connector.specs.declared.connector.Returned.{Returned}
use Rattle.relay_connector.specs.declared.script_connector.ScriptConnector.{ScriptConnector}
use Rattle.relay_connector.specs.ScriptConnector.{AnyScript}
use Rattle.relay_links.specs.declared.memory_purger.MemoryPurger.{MemoryPurger}
use Rattle.relay_request.specs.declared.outcome.Outcome.TheVariants.{OutOfMemory}
use Rattle.relay_proxy.specs.declared.proxy.HttpProxy.{HttpProxy}
use Rattle.relay_scripted.specs.declared.proxy.ScriptProxy.{ScriptProxy}
use Rattle.relay_command.specs.Exchange.{reported, taken_of, StartWithin}
use Rattle.relay_command.specs.Report.{request_spec}
use Rattle.relay_command.specs.declared.report.RequestReport.{RequestReport}
use Rattle.relay_command.proofs.ExchangeLemmas.{back_start, range_end, run_next}
use Rattle.relay_command.proofs.exchange.Run.next.Goals as goal

pub request_report-requires : goal.request_report-requires
request_report-requires c =
    let before = c.returned-back.result.now in
    let behind = c.returned.result.now in
    let had : before ≡ links_returned c.args.self.now.proxy.connector =
    c.returned-back.ensures ∙ ap links_returned c.connector.ensures in
    let has : behind ≡ links_returned c.process_new_http-processed.new.self.connector =
    c.returned.ensures ∙ ap links_returned c.connector-2.ensures in
    subst (λ (rs : List (Returned AnyScript)). StartWithin rs)
    (sym (range_end behind (length before) ∙ rw (had, has) refl))
    (back_start _ _ (links_returned c.args.self.now.proxy.connector)
    (links_returned c.process_new_http-processed.new.self.connector) _ _ _ _ _ _ _
    c.process_new_http-processed.ensures.processes)

pub returns : goal.returns
returns c = λ script peers many at.
    let processed = c.process_new_http-processed.result in
    let printable : processed.outcome ≢ OutOfMemory =
    λ is. true≢false (sym (c.wants_memory.ensures.1 is) ∙ c.if-wants_memory.false) in
    let first = c.taken-taken.result.now in
    let last = c.taken.result.now in
    let before = c.returned-back.result.now in
    let behind = c.returned.result.now in
    let started : first ≡ taken_of c.args.self.now.client.link =
    sym (same_Some _ _ c.taken-taken.ensures) ∙ ap taken_of c.link.ensures in
    let stands : last ≡ taken_of c.process_new_http-processed.new.client.link =
    sym (same_Some _ _ c.taken.ensures) ∙ ap taken_of c.link-2.ensures in
    let had : before ≡ links_returned c.args.self.now.proxy.connector =
    c.returned-back.ensures ∙ ap links_returned c.connector.ensures in
    let has : behind ≡ links_returned c.process_new_http-processed.new.self.connector =
    c.returned.ensures ∙ ap links_returned c.connector-2.ensures in
    let wrote : c.bytes_behind.result.now
    ≡ drop (length (taken_of c.args.self.now.client.link))
    (taken_of c.process_new_http-processed.new.client.link) =
    c.bytes_behind.ensures ∙ rw (started, stands) refl in
    let back : slice_range behind (length before) (length behind)
    ≡ drop (length (links_returned c.args.self.now.proxy.connector))
    (links_returned c.process_new_http-processed.new.self.connector) =
    range_end behind (length before) ∙ rw (had, has) refl in
    IfOk-weaker c.request_report.result
    (λ (request : RequestReport). (request_spec request
    ≡ reported c.args.self.now.names.items processed
    c.bytes_behind.result.now
    (slice_range behind (length before) (length behind)))
    × (c.request_report.new.names.items
    ≡ drop (length processed.history.attempts) c.args.self.now.names.items))
    _
    (λ request found. run_next script peers c.args.self.now _ processed c.args.turns
    c.bytes_behind.result.now
    (slice_range behind (length before) (length behind))
    (request_spec request) many at c.process_new_http-processed.ensures.processes
    c.process_new_http-processed.ensures.client_start
    found.1
    (ap (λ (p : HttpProxy ScriptProxy ScriptConnector MemoryPurger). p.conf.max_retries)
    c.process_new_http-processed.ensures.same)
    (ap (λ (p : HttpProxy ScriptProxy ScriptConnector MemoryPurger). p.inner)
    c.process_new_http-processed.ensures.same)
    c.process_new_http-processed.ensures.logged
    printable wrote back found.0)
    c.request_report.ensures
