-- A response depends on the method of its request through HEAD alone.
use Rattle.std.proofs.Common.{◌≡◌, ℕ, Bool, true, false, List, refl, ap, Option, if◌then◌else◌, codes, option_map, unwrap_or}
use Rattle.std.specs.Str.{bytes_eq}
use Rattle.http.specs.declared.Version.{Version}
use Rattle.relay_tasks.specs.Head.{ResponseHead}
use Rattle.relay_h1.specs.declared.framing.Framing.{Framing}
use Rattle.relay_h1.specs.Framing.{is_http_10, response_framing}
use Rattle.relay_h1.specs.ClientHead.{client_framing, client_head, framing_for, head_for}
use Rattle.relay_session.specs.Asked.{method_of, asks_of}
use Rattle.relay_session.specs.declared.task_text.Asks.TheVariants as asks

-- the method that stands for another is HEAD where that one is
stands_for_head : (is_head : Bool)
    → bytes_eq (method_of (if is_head then asks.Head else asks.Other)) (codes "HEAD") ≡ is_head
stands_for_head true = refl
stands_for_head false = refl

-- the framing of the response is that of the request's own method
pub same_response_framing : (method : List ℕ) (asked : Bool) (response : ResponseHead)
    → response_framing (method_of (asks_of method)) asked response
    ≡ response_framing method asked response
unfolding response_framing
same_response_framing method asked response =
    rw (stands_for_head (bytes_eq method (codes "HEAD"))) refl

-- so is the framing towards the client
pub same_framing : (method : List ℕ) (version : Version) (asked : Bool) (response : ResponseHead)
    → client_framing (method_of (asks_of method)) version asked response
    ≡ client_framing method version asked response
unfolding client_framing
same_framing method version asked response =
    ap (λ (framing : Option Framing). option_map (framing_for (is_http_10 version)) framing)
    (same_response_framing method asked response)

-- and the head that the client gets
pub same_head : (method : List ℕ) (version : Version) (asked : Bool) (response : ResponseHead)
    → client_head (method_of (asks_of method)) version asked response
    ≡ client_head method version asked response
unfolding client_head
same_head method version asked response =
    ap
    (λ (framing : Option Framing).
    unwrap_or (option_map (λ g. head_for (is_http_10 version) g response) framing) response)
    (same_response_framing method asked response)
