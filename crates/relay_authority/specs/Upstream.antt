-- The head that an attempt sends, by its upstream and its client (RFC 9112, section 3.2; RFC 9113,
-- section 8.3.1).
use Rattle.std.specs.Prelude.{Bool, is_some}
use Rattle.relay_tasks.specs.Head.{RequestHead}
use Rattle.relay_tasks.specs.declared.ErrorSource.TheVariants as side
use Rattle.relay_authority.specs.declared.upstream.Client.{Client}
use Rattle.relay_authority.specs.declared.upstream.Upstream.{Upstream}
use Rattle.relay_authority.specs.declared.upstream.Upstream.TheVariants as over
use Rattle.relay_authority.specs.Address.{Addresses}
use Rattle.relay_authority.specs.Attempt.{ReadiesH1, ReadiesH2, SettlesH1, SettlesH2}
use Rattle.relay_authority.specs.Framing.{Frames}
use Rattle.relay_authority.specs.Heads.{first_host}
use Rattle.relay_authority.specs.Stage.{Step, Stage, AndThen, OnSide, Passes, Unless}

-- a client's head, made ready for the hook that may change it
abbrev pub ReadyHead : Upstream → Bool → Stage
ReadyHead over.H1 custom = OnSide side.Downstream (ReadiesH1 custom)
ReadyHead (over.H2 tls) custom = OnSide side.Downstream (ReadiesH2 custom)
ReadyHead over.Custom custom = Passes

-- the body is framed
abbrev pub FramesBody : Bool → Step
FramesBody has_body head = Frames head has_body

-- over HTTP/1: Host, URI and target say one authority, and the body is framed
abbrev pub SentH1 : Client → Bool → Stage
SentH1 client had_host =
    AndThen (Unless client.custom (OnSide side.Internal (SettlesH1 had_host)))
    (OnSide side.Unset (FramesBody client.has_body))

-- over HTTP/2: they say one authority, which then stands in the URI
abbrev pub SentH2 : Client → Bool → Stage
SentH2 client tls = AndThen (Unless client.custom (OnSide side.Internal SettlesH2))
    (Addresses client.custom tls)

-- the filtered head, as it is sent: `asked` is the client's own head
abbrev pub SentHead : Upstream → Client → RequestHead → Stage
SentHead over.H1 client asked = SentH1 client (is_some (first_host asked))
SentHead (over.H2 tls) client asked = SentH2 client tls
SentHead over.Custom client asked = Passes
