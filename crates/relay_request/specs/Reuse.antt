-- Whether the client may ask for more, by what is known of a finished exchange, or of the session
-- of a request that hooks answered (RFC 9112, section 9.3).
use Rattle.std.specs.Prelude.{ℕ, Bool, not, ◌&&◌, ◌||◌, ◌==◌, List, length, nat_lt}
use Rattle.relay_links.specs.Count.{last_count}
use Rattle.relay_session.specs.Response.{is_over}
use Rattle.relay_session.specs.Session.{lets_ask_again}
use Rattle.relay_session.specs.declared.session.HttpSession.{HttpSession}
use Rattle.relay_hooked.specs.declared.exchange.HookedExchange.{HookedExchange}

-- a count has risen; one that stands at its last value counts as risen
abbrev pub has_risen : ℕ → ℕ → Bool
has_risen before after = nat_lt before after || not (nat_lt after last_count)

-- the client may ask for more: its request lets it, the response does not close its connection, no
-- byte is ahead, and the count of its link's faults has not risen since the request began
abbrev pub client_reusable : {L : Type 0} → HookedExchange L → List ℕ → ℕ → ℕ → Bool
client_reusable x ahead first faults =
    not (has_risen first faults)
    && ((not x.down.inner.session.writing.closes && (length ahead == 0))
    && lets_ask_again x.down.inner.session)

-- the client may ask for more behind a response that was written out: its request lets it, and the
-- response is over and does not close the connection
abbrev pub may_ask_again : HttpSession → Bool
may_ask_again session =
    lets_ask_again session && (is_over session.writing.place && not session.writing.closes)

-- the same where nothing is ahead
abbrev pub goes_back_with : HttpSession → List ℕ → Bool
goes_back_with session ahead = (length ahead == 0) && may_ask_again session
