-- The fields passed their filter, or it failed.
use Rattle.relay_filters.specs.Response.{SomeAllow}
use Rattle.relay_filters.proofs.ResponseLemmas.{fields_pass}
use Rattle.relay_filters.proofs.response.filter_fields.Goals as goal

pub returns : goal.returns
returns g c =
    fields_pass (g.SV.ProxyHttp.allows c.args.app.now)
    (SomeAllow g.SV.Modules.HttpModule.allows)
    c.args.of_head c.args.fields.now _ _ _ _ _ _ c.requires
    c.call_upstream_response_trailer_filter.ensures.calls
