-- A purger in memory.
use Rattle.std.specs.Prelude.{◌≡◌, ◌⊎◌, Some}
use Rattle.relay_tasks.specs.declared.peer.Purged.{Purged}
use Rattle.relay_tasks.specs.declared.peer.Purged.TheVariants.{OutOfMemory}
use Rattle.relay_links.specs.declared.memory_purger.MemoryPurger.{MemoryPurger}
use Rattle.relay_links.specs.Purger.{PurgerState}

-- the purger's state: it tells its calls
abbrev pub purger_state : MemoryPurger → PurgerState
purger_state purger = record { told = Some purger.calls.items; faults = purger.faults }

-- the answer that it gives
abbrev pub one_answer : MemoryPurger → Purged
one_answer purger = purger.answer

-- the purger's one answer, or out of memory
abbrev pub AnswersAs : Purged → Purged → Type 0
AnswersAs answer result = (result ≡ answer) ⊎ (result ≡ OutOfMemory)
