-- Whether a client may ask for more behind what hooks answered.
use Rattle.std.proofs.Common.{◌≡◌, ◌≢◌, ℕ, Bool, true, false, not, ◌&&◌, List, [], length, Option, None, refl, sym, ap, ◌∙◌, true≢false}
use Rattle.std.specs.Prelude.{◌==◌, ◌↔◌, IsTrue}
use Rattle.std.proofs.lemmas.Bool.{eqb-true}
use Rattle.std.proofs.lemmas.List.{nil_from_length}
use Rattle.relay_tasks.specs.declared.Error.{Error}
use Rattle.http.specs.declared.Version.{Version}
use Rattle.http.specs.declared.version.Http.{Http}
use Rattle.http.specs.declared.version.Http.TheVariants.{Http09, Http10, Http11, H2, H3}
use Rattle.http.specs.declared.version.TheConstants.Version.{HTTP_11}
use Rattle.relay_h1.specs.Options.{closes}
use Rattle.relay_session.specs.Asked.{is_http_11, is_version_11, lets_ask, request_of}
use Rattle.relay_session.specs.Front.{ends_with_head}
use Rattle.relay_session.specs.Reading.{is_body_done}
use Rattle.relay_session.specs.Response.{is_over}
use Rattle.relay_session.specs.TaskWire.{Sent, wire}
use Rattle.relay_session.specs.declared.session.HttpSession.{HttpSession}
use Rattle.relay_session.specs.declared.task_text.Place.{Place}
use Rattle.relay_session.specs.declared.task_text.Place.TheVariants as stands
use Rattle.relay_session.specs.declared.task_text.Request.{Request}
use Rattle.relay_attempt.specs.Passed.{Passed}
use Rattle.relay_request.specs.Ahead.{IsOwedAhead}
use Rattle.relay_request.specs.Endings.{IsReusableAhead}
use Rattle.relay_request.specs.Owed.{TellsAgain}
use Rattle.relay_request.specs.Passed.{Start}
use Rattle.relay_request.specs.Reuse.{goes_back_with}

-- a test that passes only for HTTP/1.1
pub version_11 : (version : Version) → is_http_11 version ≡ true → version ≡ HTTP_11
version_11 version passes = ap as_version (is_11 version.0 passes)
  where
    as_version : Http → Version
    as_version http = record { 0 = http }

    is_11 : (http : Http) → is_version_11 http ≡ true → http ≡ Http11
    is_11 Http09 passes = cc
    is_11 Http10 passes = cc
    is_11 Http11 passes = refl
    is_11 H2 passes = cc
    is_11 H3 passes = cc

-- what a session tells of its client
record SixPass (n d v a o c : Bool) : Type 0 where
  none : n ≡ true
  done : d ≡ true
  is_11 : v ≡ true
  asks : a ≡ false
  over : o ≡ true
  closes : c ≡ false

six_pass : (n d v a o c : Bool) → (n && ((d && (v && not a)) && (o && not c))) ≡ true
    → SixPass n d v a o c
six_pass true true true false true false all =
    record { none = refl; done = refl; is_11 = refl; asks = refl; over = refl; closes = refl }
six_pass false d v a o c all = absurd (true≢false (sym all))
six_pass true false v a o c all = absurd (true≢false (sym all))
six_pass true true false a o c all = absurd (true≢false (sym all))
six_pass true true true true o c all = absurd (true≢false (sym all))
six_pass true true true false false c all = absurd (true≢false (sym all))
six_pass true true true false true true all = absurd (true≢false (sym all))

-- it says exactly whether its client may ask for more behind what hooks answered
pub may_exactly : {s : Start} {p : Passed} (why : Option Error) (text : List ℕ)
    (owes : IsOwedAhead s p why text) (session : HttpSession) (ahead : List ℕ) → why ≡ None
    → text ≢ [] → TellsAgain owes session
    → IsTrue (goes_back_with session ahead) ↔ IsReusableAhead owes ahead
may_exactly why text (IsOwedAhead.by_answer head tasks t has order is_answer is) session ahead none
    some tells = (
      λ goes.
          let six = six_pass (length ahead == 0) (ends_with_head has.framing)
          (is_http_11 head.version)
          (closes head.fields) (is_over sent.place) sent.closes (sym tests ∙ goes) in
          record {
            version = version_11 head.version six.is_11;
            asks = six.asks;
            answers = six.closes;
            some = λ nothing. some (is ∙ nothing);
            over = six.over;
            ended = six.done;
            nothing_ahead = nil_from_length ahead (eqb-true (length ahead) 0 six.none);
          },
      λ may.
          tests
          ∙ rw (
            ap (λ (bytes : List ℕ). length bytes == 0) may.nothing_ahead,
            may.ended,
            ap is_http_11 may.version,
            may.asks,
            may.over,
            may.answers,
          ) refl,
    )
  where
    sent : Sent
    sent = wire (request_of head) stands.NoHead tasks

    tests : goes_back_with session ahead
        ≡ ((length ahead == 0) && ((ends_with_head has.framing
        && (is_http_11 head.version && not (closes head.fields)))
        && (is_over sent.place && not sent.closes)))
    tests =
        ap (λ (r : Request). (length ahead == 0) && ((is_body_done session.reading && lets_ask r)
        && (is_over session.writing.place && not session.writing.closes))) tells.request
        ∙ ap (λ (b : Bool). (length ahead == 0) && ((b && lets_ask (request_of head))
        && (is_over session.writing.place && not session.writing.closes))) tells.done
        ∙ ap (λ (k : Place). (length ahead == 0) && ((ends_with_head has.framing
        && lets_ask (request_of head)) && (is_over k && not session.writing.closes))) tells.place
        ∙ ap (λ (b : Bool). (length ahead == 0) && ((ends_with_head has.framing
        && lets_ask (request_of head)) && (is_over sent.place && not b))) tells.closes
may_exactly why text (IsOwedAhead.by_error head e t has stopped told is) session ahead none some
    tells =
    absurd (cc)
