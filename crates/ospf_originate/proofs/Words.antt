-- Parts of definitions of specs/ by names of their own, for the proofs.
use Rattle.std.specs.Prelude.{◌++◌, ℕ, ℤ, List, ◌∷◌, [], Option, None, Some, if◌then◌else◌, option_and_then}
use Rattle.std.specs.List.{flat_map}
use Rattle.ospf_base.specs.declared.ids.LsaKey.{LsaKey}
use Rattle.ospf_lsdb.specs.Database.{Entry, is_fresh}
use Rattle.ospf_area.specs.declared.state.Numbering.{Numbering}
use Rattle.ospf_area.specs.Outputs.{OutputsValue, SentValue}
use Rattle.ospf_area.specs.State.{AreaValue}
use Rattle.ospf_area.specs.Acting.{Becomes, InTurn}
use Rattle.ospf_originate.specs.Wants.Wanted.{WantedValue}
use Rattle.ospf_originate.specs.declared.action.DueAction.{DueAction}
use Rattle.ospf_originate.specs.declared.action.OwnAction.{OwnAction}
use Rattle.ospf_originate.specs.declared.action.OwnAction.TheVariants.{Leave, Flush, Issue}
use Rattle.ospf_originate.specs.Steps.{Acts, IssuesAndTurns}
use Rattle.ospf_area.proofs.Words.{is_numbering_of}

abbrev pub and_issues : OutputsValue → List SentValue → List ℕ → OutputsValue
and_issues out updates lsa = record out { sent = out.sent ++ updates; issued = out.issued ++ lsa ∷ [] }

-- one after the other
abbrev pub ActsInTurn : List WantedValue → List DueAction → AreaValue → OutputsValue → OutputsValue → AreaValue → Type 0
ActsInTurn ws due before out out' after = InTurn (λ (d : DueAction). Acts d.action ws d.key) due before out out' after

-- the copy makes room for the numbers to begin again, or does so already (12.1.6)
abbrev pub makes_room : Option Entry → OwnAction
makes_room o = elim o [ None ↦ Leave | Some e ↦ (if is_fresh e then Flush else Leave) ]

-- an LSA of the key was issued in a tick
abbrev pub issued_one : LsaKey → ℕ → Numbering → Numbering
issued_one key tick n = if is_numbering_of key n then record n { issued_at = Some tick } else n

-- the wanted LSA of a key is issued with a number, if one is wanted
abbrev pub IssuesIf : Option WantedValue → ℤ → AreaValue → OutputsValue → OutputsValue → AreaValue → Type 0
IssuesIf o number before out out' after = elim o [
  | None ↦ Becomes before out out' after
  | Some w ↦ IssuesAndTurns w number before out out' after
]

-- what is due of a key
abbrev pub due_as : OwnAction → LsaKey → List DueAction
due_as a key = elim a [
  | Leave ↦ []
  | Flush ↦ record { key = key; action = Flush } ∷ []
  | Issue number ↦ record { key = key; action = Issue number } ∷ []
]

-- when a key was last issued
abbrev pub issued_at_in : Option Numbering → Option ℕ
issued_at_in o = option_and_then (λ n. n.issued_at) o

-- what is due of keys, in their order
abbrev pub due_of : (LsaKey → OwnAction) → List LsaKey → List DueAction
due_of action keys = flat_map (λ key. due_as (action key) key) keys
