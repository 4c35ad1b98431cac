-- What a response and its client's connection depend on of the request (RFC 9110, sections 9.3.2
-- and 15.2; RFC 9112, sections 6.3, 9.3 and 9.6).
use Rattle.std.specs.Prelude.{Bool, List, ℕ, true, false, not, ◌&&◌, codes, if◌then◌else◌}
use Rattle.std.specs.Str.{bytes_eq}
use Rattle.http.specs.declared.Version.{Version}
use Rattle.http.specs.declared.version.Http.{Http}
use Rattle.http.specs.declared.version.Http.TheVariants.{Http09, Http10, Http11, H2, H3}
use Rattle.http.specs.declared.version.TheConstants.Version.{HTTP_11}
use Rattle.relay_tasks.specs.Head.{RequestHead}
use Rattle.relay_h1.specs.Options.{closes}
use Rattle.relay_session.specs.declared.task_text.Asks.{Asks}
use Rattle.relay_session.specs.declared.task_text.Asks.TheVariants as asks
use Rattle.relay_session.specs.declared.task_text.Request.{Request}

-- a method that asks so
abbrev pub method_of : Asks → List ℕ
method_of asks.Head = codes "HEAD"
method_of asks.Other = codes "GET"

-- a method that asks so is HEAD
abbrev pub is_head : Asks → Bool
is_head asks.Head = true
is_head asks.Other = false

-- what a response depends on of that method
abbrev pub asks_of : List ℕ → Asks
asks_of method = if bytes_eq method (codes "HEAD") then asks.Head else asks.Other

-- the request with that head; no upgrade is offered, so none counts as asked for
abbrev pub request_of : RequestHead → Request
request_of head = record {
  method = asks_of head.method;
  version = head.version;
  asked = false;
  close = closes head.fields;
}

-- a request whose head has not come
abbrev pub unread : Request
unread = record { method = asks.Other; version = HTTP_11; asked = false; close = false }

-- the version is HTTP/1.1
abbrev pub is_version_11 : Http → Bool
is_version_11 Http09 = false
is_version_11 Http10 = false
is_version_11 Http11 = true
is_version_11 H2 = false
is_version_11 H3 = false

abbrev pub is_http_11 : Version → Bool
is_http_11 version = is_version_11 version.0

-- the head, as it came, lets its client ask for more: HTTP/1.1, and no option `close`
abbrev pub lets_ask : Request → Bool
lets_ask request = is_http_11 request.version && not request.close
