-- A link of messages that nobody makes.
use Rattle.std.specs.Prelude.{None, true, false}
use Rattle.relay_links.specs.Count.{last_count}
use Rattle.relay_messages.specs.declared.no_messages.NoMessages.{NoMessages}
use Rattle.relay_messages.specs.MessageLink.{MessageState, MessageStart}

-- the link's state: no content, silent for ever, its resets and marks at their last value
abbrev pub no_state : NoMessages → MessageState
no_state link = record {
  given = None;
  taken = None;
  read_faults = None;
  write_faults = None;
  waits = 0;
  used = 0;
  faults = 0;
  resets = last_count;
  shutdowns = last_count;
  ended = λ stream. false;
  silent_on_read = λ stream. true;
  silent_on_write = true;
}

-- the link as it would be handed out, with neither a reader nor a writer of messages
abbrev pub no_start : NoMessages → MessageStart
no_start link = record {
  items = None;
  given = 0;
  taken = 0;
  read_faults = 0;
  write_faults = 0;
  waits = 0;
  used = 0;
  faults = 0;
  resets = last_count;
  shutdowns = last_count;
  reused = false;
  reader = false;
  writer = false;
}
