-- The fixed text of each context.
use Rattle.std.specs.Prelude.{ℕ, List, [], codes}
use Rattle.relay_tasks.specs.declared.context.Context.{Context}
use Rattle.relay_tasks.specs.declared.context.Context.TheVariants as about

-- what an error was about, in words
abbrev pub context_text : Context → List ℕ
context_text about.None = []
context_text about.HeadGrammar = codes "malformed message head"
context_text about.HeadTooLong = codes "message head too long"
context_text about.BadFraming = codes "malformed message framing"
context_text about.HostCount = codes "missing or repeated Host"
context_text about.HostInvalid = codes "invalid authority in Host"
context_text about.HostMismatch = codes "Host and target disagree"
context_text about.Userinfo = codes "userinfo in request authority"
context_text about.UserinfoHost = codes "userinfo in Host header"
context_text about.Ambiguous = codes "ambiguous HTTP absolute-form request target"
context_text about.NonUtf8Reconcile = codes "non-UTF-8 path cannot be reconciled with URI authority"
context_text about.NonUtf8H2 = codes "non-UTF-8 request target cannot be forwarded over HTTP/2"
context_text about.NoAuthorityH2 = codes "no authority for H2 upstream request"
context_text about.PathInvalid = codes "invalid path for HTTP/2"
context_text about.Mismatch101 = codes "received 101 response with mismatched upgrade status"
context_text about.AfterUpgrade = codes "received task after downstream 101 upgrade"
context_text about.BeforeUpgrade = codes "received upgraded body task before downstream 101 upgrade"
context_text about.EndedInformational = codes "informational head ended its stream"
context_text about.LengthOnEnd = codes "non-zero content-length on EOS headers frame"
context_text about.UpgradedH2 = codes "upgraded while proxying to h2 session"
context_text about.NoReader = codes "no custom message reader"
context_text about.NoWriter = codes "no custom message writer"
context_text about.ClientClosed = codes "client closed"
context_text about.ClientSentMore = codes "client sent data after its request"
context_text about.UpstreamClosed = codes "upstream closed inside its response"
context_text about.BodyShort = codes "body shorter than its Content-Length"
context_text about.NoTaskApi = codes "session without the proxy task API"
context_text about.LinkFault = codes "fault reported by a link"
