-- A map has as many keys as the object that it stands for.
use Rattle.std.proofs.Common.{sym, ap, ◌∙◌, option_map, unwrap_or}
use Rattle.serde_json.specs.Events.{members_len}
use Rattle.serde_json.proofs.Views.{members_len-members_view}
use Rattle.relay_json.proofs.values.key_count.Goals as goal

pub returns-in-Some : goal.returns-in-Some
returns-in-Some c =
    c.len.ensures.len ∙ sym (members_len-members_view c.in-Some.members.now.entries)
    ∙ ap (λ found. unwrap_or (option_map members_len found) 0) c.in-Some.ensures
