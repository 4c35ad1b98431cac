use Rattle.std.proofs.Common.{◌≡◌, ◌++◌}
use Rattle.http_header.specs.HeaderMap.{pairs}
use Rattle.relay_h1.specs.Wire.{field_lines, KeepsFront}
use Rattle.relay_h1.proofs.wire.push_fields.Given as goal

abbrev pub invariant-loop-name : goal.invariant-loop-name
invariant-loop-name l = record {
  joined : l.out.items ++ field_lines l.name-iterator ≡ l.initial.out.items ++ field_lines
      (pairs l.fields);
  front : KeepsFront l.initial.out.items l.out.items;
}
