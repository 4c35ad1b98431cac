-- A link that tells no content.
use Rattle.std.specs.Prelude.{false, None}
use Rattle.relay_links.specs.declared.link.UpKind.TheVariants.{H1}
use Rattle.relay_links.specs.declared.mute_link.MuteLink.{MuteLink}
use Rattle.relay_links.specs.Link.{LinkState, LinkStart}

-- the link's state: no content, no waits, no faults, and never silent
abbrev pub mute_state : MuteLink → LinkState
mute_state link = record {
  given = None;
  taken = None;
  read_faults = None;
  write_faults = None;
  waits = 0;
  used = link.used;
  faults = 0;
  ended = link.ended;
  silent_on_read = false;
  silent_on_write = false;
}

-- the link as it was made
abbrev pub mute_start : MuteLink → LinkStart
mute_start link = record {
  kind = H1;
  items = None;
  given = 0;
  taken = 0;
  read_faults = 0;
  write_faults = 0;
  waits = 0;
  used = 0;
  faults = 0;
  reused = link.reused;
}
