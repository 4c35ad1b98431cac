-- What a connector that hands out listed links has left.
use Rattle.std.specs.Prelude.{◌≡◌, ℕ, ◌-◌, Bool, true, false, cond, nat_le, List, [], ◌∷◌, ◌++◌, map, replicate, vec_len, Option, Some, None}
use Rattle.relay_tasks.specs.declared.error.RetryType.{RetryType}
use Rattle.relay_tasks.specs.declared.fault.Fault.{Fault}
use Rattle.relay_links.specs.Count.{last_count}
use Rattle.relay_connector.specs.Connector.{Offer, New, Again, Refusal, connect_fault, nothing_left}
use Rattle.relay_connector.specs.ScriptConnector.{AnyScript, any_start}
use Rattle.relay_connector.specs.declared.connector.Returned.{Returned}
use Rattle.relay_connector.specs.declared.script_connector.PeerScript.{PeerScript}
use Rattle.relay_connector.specs.declared.script_connector.ScriptConnector.{ScriptConnector}

-- the entries that are left
abbrev pub next_entries : ScriptConnector → List PeerScript
next_entries connector = connector.entries.items

-- the links that were handed back, in order
abbrev pub links_returned : ScriptConnector → List (Returned AnyScript)
links_returned connector = connector.returned.items

-- how many of those that came back to be kept were not used again yet
abbrev pub links_idle : ScriptConnector → ℕ
links_idle connector = connector.idle

-- a mark's fault, or else the link, as a new one or again
abbrev pub entry_offer : Option RetryType → Bool → AnyScript → Offer
entry_offer (Some retry) again link = Refusal (connect_fault retry)
entry_offer None false link = New (any_start link).items
entry_offer None true link = Again (any_start link).items

-- what an entry is for
abbrev pub offer_of : PeerScript → Offer
offer_of entry = entry_offer entry.connect entry.again entry.link

-- what the connector has for the calls to come
abbrev pub offers_left : ScriptConnector → List Offer
offers_left connector = map offer_of (next_entries connector)

-- how many links are out
abbrev pub links_out : ScriptConnector → ℕ
links_out connector = connector.out

-- how many calls failed
abbrev pub gets_failed : ScriptConnector → ℕ
gets_failed connector = connector.faults

-- how often it was told to prefer HTTP/1
abbrev pub times_preferred : ScriptConnector → ℕ
times_preferred connector = connector.preferred

-- the faults that the connector answered: those of its entries, and then those past the last one;
-- not told once the count stands still
abbrev pub faults_answered : ScriptConnector → Option (List Fault)
faults_answered connector =
    cond (nat_le last_count connector.faults) None
    (Some (connector.refused.items
    ++ replicate (connector.faults - vec_len connector.refused) nothing_left))

-- the connector has answered nothing, and has these entries
pub record IsNew (connector : ScriptConnector) (entries : List PeerScript) : Type 0 where
  pub next : next_entries connector ≡ entries
  pub returned : links_returned connector ≡ []
  pub idle : links_idle connector ≡ 0
  pub out : links_out connector ≡ 0
  pub faults : gets_failed connector ≡ 0
  pub preferred : times_preferred connector ≡ 0
  pub refusals : faults_answered connector ≡ Some []
