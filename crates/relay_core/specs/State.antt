-- The states of a request, of a response, and of a duplex.
use Rattle.std.specs.Prelude.{Bool, true, false, ◌&&◌, not}
use Rattle.relay_core.specs.declared.downstream_state.DownstreamStateMachine.{DownstreamStateMachine}
use Rattle.relay_core.specs.declared.downstream_state.DownstreamStateMachine.TheVariants.{Reading, ReadingFinished, Errored}
use Rattle.relay_core.specs.declared.response_state.ResponseStateMachine.{ResponseStateMachine}
use Rattle.relay_core.specs.declared.pipe_state.PipeState.{PipeState}
use Rattle.relay_core.specs.declared.pipe_state.PipeState.TheVariants.{Active, DownstreamComplete, Failed}

-- a request that has ended, or one that is being read
abbrev pub begun : Bool → DownstreamStateMachine
begun true = ReadingFinished
begun false = Reading

-- more of the request may come
abbrev pub is_reading : DownstreamStateMachine → Bool
is_reading Reading = true
is_reading ReadingFinished = false
is_reading Errored = false

-- the client failed
abbrev pub is_errored : DownstreamStateMachine → Bool
is_errored Reading = false
is_errored ReadingFinished = false
is_errored Errored = true

-- the client may be asked
abbrev pub can_poll : DownstreamStateMachine → Bool
can_poll request = not (is_errored request)

-- nothing more of the request comes
abbrev pub is_done : DownstreamStateMachine → Bool
is_done request = not (is_reading request)

-- the request once it may have ended: no state but `Reading` changes
abbrev pub finished : DownstreamStateMachine → Bool → DownstreamStateMachine
finished Reading true = ReadingFinished
finished Reading false = Reading
finished ReadingFinished set = ReadingFinished
finished Errored set = Errored

-- the request, opened again: no state but `ReadingFinished` changes
abbrev pub reset_to_reading : DownstreamStateMachine → DownstreamStateMachine
reset_to_reading Reading = Reading
reset_to_reading ReadingFinished = Reading
reset_to_reading Errored = Errored

-- both the upstream and the cache are done with the response
abbrev pub is_response_done : ResponseStateMachine → Bool
is_response_done response = response.upstream_done && response.cached_done

-- the client's half of a duplex is done
abbrev pub is_complete : PipeState → Bool
is_complete Active = false
is_complete DownstreamComplete = true
is_complete Failed = false
