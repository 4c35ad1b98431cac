use Rattle.std.proofs.Common.{◌≡◌, take}
use Rattle.relay_h1.specs.HeadSpans.{kept_fields_at}
use Rattle.relay_h1.proofs.head.push_response_fields.Given as goal

-- the fields so far are kept, and nothing else has changed
abbrev pub invariant-loop-span : goal.invariant-loop-span
invariant-loop-span l =
    l.head ≡ record l.initial.head { fields = kept_fields_at l.bytes (take l.span-index l.spans) }
