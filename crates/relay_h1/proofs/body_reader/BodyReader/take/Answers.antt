-- What a call answers, takes and tells, by what stood behind the framing.
use Rattle.relay_tasks.specs.declared.error.Fail.TheVariants as fail
use Rattle.relay_h1.specs.declared.body_reader.Cut.TheVariants as cut
use Rattle.relay_h1.proofs.BodyReaderLemmas.{Meets, meets_run, meets_end, meets_more, meets_broken, meets_exactly, meets_so_far, meets_tells}
use Rattle.relay_h1.proofs.body_reader.BodyReader.take.Goals as goal

run_meets : (c : goal.After-take_run)
    → Meets c.self.inside.state c.args.ahead.now c.take_run.new.self c.take_run.new.ahead
    c.take_run.result
run_meets c =
    meets_run c.self.inside.state c.take_run.new.self c.args.ahead.now
    c.pass_framing-passed.new.ahead c.take_run.new.ahead c.pass_framing-passed.result
    c.take_run.result c.pass_framing-passed.ensures c.in-Run.is c.take_run.ensures

pub returns-in-Run-clause-answer : goal.returns-in-Run-clause-answer
returns-in-Run-clause-answer c = rw (← c.self.view_is) (run_meets c).answer

pub returns-in-Run-clause-takes : goal.returns-in-Run-clause-takes
returns-in-Run-clause-takes c = rw (← c.self.view_is) (run_meets c).takes

pub returns-in-Run-clause-exact : goal.returns-in-Run-clause-exact
returns-in-Run-clause-exact c = rw (← c.self.view_is) (meets_exactly (run_meets c))

pub returns-in-Run-clause-keeps : goal.returns-in-Run-clause-keeps
returns-in-Run-clause-keeps c = λ framing given body.
    rw (← c.self.view_is) (meets_so_far (run_meets c) framing given body)

pub returns-in-Run-clause-tells : goal.returns-in-Run-clause-tells
returns-in-Run-clause-tells c = λ framing given body.
    rw (← c.self.view_is) (meets_tells (run_meets c) framing given body)

end_meets : (c : goal.In-End)
    → Meets c.self.inside.state c.args.ahead.now c.pass_framing-passed.result.state
    c.pass_framing-passed.new.ahead cut.End
end_meets c =
    meets_end c.self.inside.state c.args.ahead.now c.pass_framing-passed.new.ahead
    c.pass_framing-passed.result c.pass_framing-passed.ensures c.in-End.is

pub returns-in-End-clause-answer : goal.returns-in-End-clause-answer
returns-in-End-clause-answer c = rw (← c.self.view_is) (end_meets c).answer

pub returns-in-End-clause-takes : goal.returns-in-End-clause-takes
returns-in-End-clause-takes c = rw (← c.self.view_is) (end_meets c).takes

pub returns-in-End-clause-exact : goal.returns-in-End-clause-exact
returns-in-End-clause-exact c = rw (← c.self.view_is) (meets_exactly (end_meets c))

pub returns-in-End-clause-keeps : goal.returns-in-End-clause-keeps
returns-in-End-clause-keeps c = λ framing given body.
    rw (← c.self.view_is) (meets_so_far (end_meets c) framing given body)

pub returns-in-End-clause-tells : goal.returns-in-End-clause-tells
returns-in-End-clause-tells c = λ framing given body.
    rw (← c.self.view_is) (meets_tells (end_meets c) framing given body)

more_meets : (c : goal.In-More)
    → Meets c.self.inside.state c.args.ahead.now c.pass_framing-passed.result.state
    c.pass_framing-passed.new.ahead cut.More
more_meets c =
    meets_more c.self.inside.state c.args.ahead.now c.pass_framing-passed.new.ahead
    c.pass_framing-passed.result c.pass_framing-passed.ensures c.in-More.is

pub returns-in-More-clause-answer : goal.returns-in-More-clause-answer
returns-in-More-clause-answer c = rw (← c.self.view_is) (more_meets c).answer

pub returns-in-More-clause-takes : goal.returns-in-More-clause-takes
returns-in-More-clause-takes c = rw (← c.self.view_is) (more_meets c).takes

pub returns-in-More-clause-exact : goal.returns-in-More-clause-exact
returns-in-More-clause-exact c = rw (← c.self.view_is) (meets_exactly (more_meets c))

pub returns-in-More-clause-keeps : goal.returns-in-More-clause-keeps
returns-in-More-clause-keeps c = λ framing given body.
    rw (← c.self.view_is) (meets_so_far (more_meets c) framing given body)

pub returns-in-More-clause-tells : goal.returns-in-More-clause-tells
returns-in-More-clause-tells c = λ framing given body.
    rw (← c.self.view_is) (meets_tells (more_meets c) framing given body)

broken_meets : (c : goal.After-broken)
    → Meets c.self.inside.state c.args.ahead.now c.pass_framing-passed.result.state
    c.pass_framing-passed.new.ahead (cut.Failed (fail.Error c.broken.result))
broken_meets c =
    meets_broken c.self.inside.state c.args.ahead.now c.pass_framing-passed.new.ahead
    c.pass_framing-passed.result c.broken.result c.pass_framing-passed.ensures c.in-Broken.is
    c.broken.ensures

pub returns-in-Broken-clause-answer : goal.returns-in-Broken-clause-answer
returns-in-Broken-clause-answer c = rw (← c.self.view_is) (broken_meets c).answer

pub returns-in-Broken-clause-takes : goal.returns-in-Broken-clause-takes
returns-in-Broken-clause-takes c = rw (← c.self.view_is) (broken_meets c).takes

pub returns-in-Broken-clause-exact : goal.returns-in-Broken-clause-exact
returns-in-Broken-clause-exact c = rw (← c.self.view_is) (meets_exactly (broken_meets c))

pub returns-in-Broken-clause-keeps : goal.returns-in-Broken-clause-keeps
returns-in-Broken-clause-keeps c = λ framing given body.
    rw (← c.self.view_is) (meets_so_far (broken_meets c) framing given body)

pub returns-in-Broken-clause-tells : goal.returns-in-Broken-clause-tells
returns-in-Broken-clause-tells c = λ framing given body.
    rw (← c.self.view_is) (meets_tells (broken_meets c) framing given body)
