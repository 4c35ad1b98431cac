-- A duplex that begins stays sound with the replay put.
use Rattle.relay_core.proofs.SoundLemmas.{sound_replay}
use Rattle.relay_core.proofs.duplex.Duplex.put_replay.Goals as goal

-- the piece that is put leaves the duplex sound
pub returns-in-Some-clause-sound : goal.returns-in-Some-clause-sound
returns-in-Some-clause-sound c =
    λ down up unsent unread sound.
    sound_replay c.args.self.now c.add.new.self down up c.in-Some.task c.requires c.add.ensures
    unsent unread sound
