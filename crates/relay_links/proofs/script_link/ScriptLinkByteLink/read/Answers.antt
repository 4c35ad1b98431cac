use Rattle.std.proofs.Common.{length, refl}
use Rattle.relay_links.proofs.ScriptLinkLemmas.{follows}
use Rattle.relay_links.proofs.script_link.ScriptLinkByteLink.read.Goals as goal

pub returns-in-Bytes-clause-script : goal.returns-in-Bytes-clause-script
returns-in-Bytes-clause-script c =
    follows c.args.self.now _ c.len.result (length c.args.room.now) (length c.read.new.room) _
    c.len.ensures c.read.auto.room refl c.in-Bytes.ensures.step

pub returns-in-NotReady-clause-script : goal.returns-in-NotReady-clause-script
returns-in-NotReady-clause-script c =
    follows c.args.self.now _ c.len.result (length c.args.room.now) (length c.read.new.room) _
    c.len.ensures c.read.auto.room refl c.in-NotReady.ensures.step

pub returns-in-Silent-clause-script : goal.returns-in-Silent-clause-script
returns-in-Silent-clause-script c =
    follows c.args.self.now _ c.len.result (length c.args.room.now) (length c.read.new.room) _
    c.len.ensures c.read.auto.room refl c.in-Silent.ensures.step

pub returns-in-End-clause-script : goal.returns-in-End-clause-script
returns-in-End-clause-script c =
    follows c.args.self.now _ c.len.result (length c.args.room.now) (length c.read.new.room) _
    c.len.ensures c.read.auto.room refl c.in-End.ensures.step

pub returns-in-Failed-clause-script : goal.returns-in-Failed-clause-script
returns-in-Failed-clause-script c =
    follows c.args.self.now _ c.len.result (length c.args.room.now) (length c.read.new.room) _
    c.len.ensures c.read.auto.room refl c.in-Failed.ensures.step
