-- Logs that come in order, and logs that do not.
use Rattle.std.specs.Prelude.{Bool, true, false, List, [], ◌∷◌, ◌++◌, None}
use Rattle.relay_tasks.specs.Error.{new_error}
use Rattle.relay_tasks.specs.declared.error.Error.{Error}
use Rattle.relay_tasks.specs.declared.error.ErrorSource.TheVariants.{Upstream}
use Rattle.relay_tasks.specs.declared.error.ErrorType.TheVariants.{ConnectError}
use Rattle.relay_tasks.specs.declared.error.RetryType.TheVariants.{Decided}
use Rattle.relay_tasks.specs.declared.hook.Hook.{Hook}
use Rattle.relay_tasks.specs.declared.hook.Hook.TheVariants as hook
use Rattle.relay_tasks.specs.declared.log.Item.{Item}
use Rattle.relay_tasks.specs.declared.log.Item.TheVariants as item
use Rattle.relay_tasks.specs.declared.log.LogEntry.{LogEntry}

-- a call that left or answered this, as far as the order asks
abbrev pub call : Hook → Item → LogEntry
call which output = record {
  hook = which;
  mark_before = 0;
  mark_after = 0;
  input = item.Nothing;
  output = output;
  wrote = [];
  error = None;
  head = None;
  keepalive = true;
  delay = None;
  view = record { final_head = false; truncated = false; upgraded = false };
}

-- an error of a peer that could not be reached, marked so
abbrev pub no_connection : Bool → Error
no_connection retry = record (new_error ConnectError Upstream) { retry = Decided retry }

-- the calls of a request up to its first attempt, where each hook is the default
abbrev pub up_to_attempt : List LogEntry
up_to_attempt =
    call hook.NewCtx item.Nothing
    ∷ call hook.EarlyRequestFilter item.Nothing
    ∷ call hook.AllowSpawningSubrequest (item.Answer false)
    ∷ call hook.ModuleRequestHeader item.Nothing
    ∷ call hook.RequestFilter (item.Answer false)
    ∷ call hook.IsPurge (item.Answer false)
    ∷ call hook.ProxyUpstreamFilter (item.Answer true)
    ∷ []

-- an attempt whose link took the head
abbrev pub up_to_response : List LogEntry
up_to_response =
    call hook.UpstreamPeer item.Nothing
    ∷ call hook.ConnectedToUpstream item.Nothing
    ∷ call hook.UpstreamRequestFilter item.Nothing
    ∷ call hook.ModuleRequestBody item.Nothing
    ∷ call hook.RequestBodyFilter item.Nothing
    ∷ []

-- a head of a response
abbrev pub head : List LogEntry
head =
    call hook.UpstreamResponseFilter item.Nothing
    ∷ call hook.ResponseFilter item.Nothing
    ∷ call hook.ModuleResponseHeader item.Nothing
    ∷ []

-- the head, filtered in the wrong order
abbrev pub turned_head : List LogEntry
turned_head =
    call hook.ResponseFilter item.Nothing
    ∷ call hook.UpstreamResponseFilter item.Nothing
    ∷ call hook.ModuleResponseHeader item.Nothing
    ∷ []

-- the one piece of its body
abbrev pub body : List LogEntry
body =
    call hook.UpstreamResponseBodyFilter item.Nothing
    ∷ call hook.ResponseBodyFilter item.Nothing
    ∷ call hook.ModuleResponseBody item.Nothing
    ∷ []

-- the end of a request whose client goes back
abbrev pub end : List LogEntry
end =
    call hook.Logging item.Nothing
    ∷ call hook.PersistConnectionContext (item.Kept false)
    ∷ []

-- an attempt that did not reach its peer, and behind which another follows
abbrev pub missed : Bool → List LogEntry
missed retry =
    call hook.UpstreamPeer item.Nothing
    ∷ call hook.FailToConnect (item.Failure (no_connection retry))
    ∷ call hook.SuppressProxyWarnLog (item.Answer true)
    ∷ []

-- a plain GET
abbrev pub plain_get : List LogEntry
plain_get = up_to_attempt ++ up_to_response ++ head ++ body ++ end
