-- Words that name changes of an area.
use Rattle.std.specs.Prelude.{◌≡◌, ◌⊎◌, ◌++◌, ◌∷◌, [], ⊤, ℕ, true, List, String, Contains, codes, decimal, map, string_bytes, vec_items}
use Rattle.std.specs.List.{AllZip}
use Rattle.std.specs.declared.alloc.Global.{Global}
use Rattle.ospf_base.specs.Text.{number_text, prefix_text}
use Rattle.ospf_base.specs.declared.ids.Addr.{Addr}
use Rattle.ospf_base.specs.declared.ids.RouterId.{RouterId}
use Rattle.ospf_lsa.specs.declared.link.Link as link
use Rattle.ospf_graph.specs.Advertisements.{Advertisement, router_lsa}
use Rattle.ospf_table.specs.Named.{IsNamed}
use Rattle.ospf_whatif.specs.Name.{area_failure_text}
use Rattle.ospf_whatif.specs.Stubs.{AreAllFailures}
use Rattle.ospf_whatif.specs.declared.failure.AreaFailure as failure
use Rattle.ospf_whatif.specs.declared.failure.AreaFailure.TheVariants as fails
use Rattle.ospf_change.specs.Edit.Change.{IsCost, cost_of, changes_costs_of, picks}
use Rattle.ospf_change.specs.declared.edit.change.Change.{Change}
use Rattle.ospf_change.specs.declared.edit.change.Change.TheVariants as change
use Rattle.ospf_change.specs.declared.edit.words.EditJob.{EditJob}
use Rattle.ospf_change.specs.declared.edit.words.WordFault.{WordFault}
use Rattle.ospf_change.specs.declared.edit.words.WordFault.TheVariants as fault
use Rattle.ospf_change.specs.declared.edit.words.WordKind.{WordKind}
use Rattle.ospf_change.specs.declared.edit.words.WordKind.TheVariants.{Down, Cost, Drain}

-- ---- what goes down

-- the same links of two routers, by the routers in the other order
abbrev pub mirrored : failure.AreaFailure → failure.AreaFailure
mirrored (fails.Link a b subnet) = fails.Link b a subnet
mirrored (fails.Links a b) = fails.Links b a
mirrored f = f

-- the word names what may fail in the area, of all that may: as it is printed; or, where it names
-- none so, with the two routers of its links in the other order
abbrev pub IsDownWord : List failure.AreaFailure → List ℕ → failure.AreaFailure → Type 0
IsDownWord single word f =
    IsNamed single word f
    ⊎ (((other : failure.AreaFailure) → IsNamed single word other → ⊥)
    × ((other : failure.AreaFailure) × IsNamed (map mirrored single) word other
    × (f ≡ mirrored other)))

-- ---- costs

-- what names the interface of a router with an address, in front of its new cost
abbrev pub interface_front : RouterId → Addr → List ℕ
interface_front router address =
    number_text router.0 ++ codes "@" ++ number_text address.0 ++ codes "="

-- two routers
abbrev pub pair_text : RouterId → RouterId → List ℕ
pair_text a b = number_text a.0 ++ codes "-" ++ number_text b.0

-- what names the interfaces of a router to another one
abbrev pub pair_front : RouterId → RouterId → List ℕ
pair_front router other = pair_text router other ++ codes "="

-- what names the interfaces of a new cost
abbrev pub cost_front : Change → List ℕ
cost_front (change.Cost router address cost) = interface_front router address
cost_front (change.CostTo router other cost) = pair_front router other
cost_front c = []

-- the word is that of a new cost of a router's interface that this link leaves by, and the cost is
-- a decimal number without leading zeros
pub record IsCostWordAt (router : RouterId) (l : link.Link) (word : List ℕ) (c : Change)
    : Type 0 where
  pub router_is : changes_costs_of c router ≡ true
  pub link_is : picks c l ≡ true
  pub cost_is : IsCost (cost_of c)
  pub word_is : word ≡ cost_front c ++ decimal (cost_of c)

-- of one of a router's links
abbrev pub IsCostWordOf : RouterId → List link.Link → List ℕ → Change → Type 0
IsCostWordOf router links word c =
    (l : link.Link) × Contains links l × IsCostWordAt router l word c

-- of one of the area
abbrev pub IsCostWord : List Advertisement → List ℕ → Change → Type 0
IsCostWord adverts word c =
    (router : RouterId) × (links : List link.Link) × Contains adverts (router_lsa router links)
    × IsCostWordOf router links word c

-- ---- drained routers

-- the word is the Router ID of a router that may fail: its router-LSA is listed
abbrev pub IsDrainWord : List failure.AreaFailure → List ℕ → RouterId → Type 0
IsDrainWord single word router =
    Contains single (fails.Router router) × (number_text router.0 ≡ word)

-- ---- near misses

-- the word is the two routers of a link in a subnet, in either order, without the subnet; or the
-- prefix of an interface to a stub network, without the router
abbrev pub IsPairWord : List ℕ → failure.AreaFailure → Type 0
IsPairWord word (fails.Link a b subnet) = (pair_text a b ≡ word) ⊎ (pair_text b a ≡ word)
IsPairWord word (fails.Stub router prefix) = prefix_text prefix ≡ word
IsPairWord word f = ⊥

-- one of the list, other than this
abbrev pub HasOtherPair : List failure.AreaFailure → List ℕ → failure.AreaFailure → Type 0
HasOtherPair single word f =
    (other : failure.AreaFailure) × Contains single other × IsPairWord word other
    × (other ≡ f → ⊥)

-- the only such one of the list
pub record IsOnlyPair (single : List failure.AreaFailure) (word : List ℕ)
    (f : failure.AreaFailure) : Type 0 where
  pub listed : Contains single f
  pub pair : IsPairWord word f
  pub alone : (other : failure.AreaFailure) → Contains single other → IsPairWord word other
      → other ≡ f

-- the hint for such a word: the name of the only such one, if there is one
abbrev pub IsHint : List failure.AreaFailure → List ℕ → List ℕ → Type 0
IsHint single word text =
    ((f : failure.AreaFailure) × IsOnlyPair single word f
    × (text ≡ codes "  did you mean " ++ area_failure_text f ++ codes "?\n"))
    ⊎ (((f : failure.AreaFailure) → IsOnlyPair single word f → ⊥) × (text ≡ []))

-- there is a hint for names of failures alone
abbrev pub IsHintOf : List failure.AreaFailure → WordKind → List ℕ → List ℕ → Type 0
IsHintOf single Down word text = IsHint single word text
IsHintOf single Cost word text = text ≡ []
IsHintOf single Drain word text = text ≡ []

-- ---- words of a kind

-- the word, of this kind, names the change of an area in which all this may fail
abbrev pub Names
    : List Advertisement → List failure.AreaFailure → WordKind → List ℕ → Change → Type 0
Names adverts single Down word c =
    (f : failure.AreaFailure) × (c ≡ change.Down f) × IsDownWord single word f
Names adverts single Cost word c = IsCostWord adverts word c
Names adverts single Drain word c =
    (router : RouterId) × (c ≡ change.Drain router) × IsDrainWord single word router

-- the same of a String
abbrev pub IsWordFor
    : List Advertisement → List failure.AreaFailure → WordKind → String Global → Change → Type 0
IsWordFor adverts single kind word c = Names adverts single kind (string_bytes word) c

-- the message for a word of this kind that names nothing
abbrev pub IsMessage : List failure.AreaFailure → WordKind → String Global → List ℕ → Type 0
IsMessage single kind word text =
    (hint : List ℕ) × IsHintOf single kind (string_bytes word) hint
    × (text ≡ string_bytes word ++ codes ": not in this area\n" ++ hint)

-- this is the message for the word, which names nothing
abbrev pub IsUnknownHere
    : List Advertisement → List failure.AreaFailure → WordKind → String Global → List ℕ → Type 0
IsUnknownHere adverts single kind word text =
    ((c : Change) → IsWordFor adverts single kind word c → ⊥) × IsMessage single kind word text

-- this is the message for the first of these words that names nothing
pub record IsFirstUnknownAmong (adverts : List Advertisement) (single : List failure.AreaFailure)
    (kind : WordKind) (words : List (String Global)) (text : List ℕ) : Type 0 where
  pub before : List (String Global)
  pub word : String Global
  pub after : List (String Global)
  pub words_are : words ≡ before ++ word ∷ after
  pub changes : List Change
  pub named : AllZip (IsWordFor adverts single kind) before changes
  pub unnamed : IsUnknownHere adverts single kind word text

-- ---- the words of a job

-- some changes are those that words name
abbrev pub AreAllNamed
    : List Advertisement → List failure.AreaFailure → WordKind → List (String Global) → Type 0
AreAllNamed adverts single kind words =
    (changes : List Change) × AllZip (IsWordFor adverts single kind) words changes

-- what the words of a job name in the area as it is read: what goes down, then costs, then drained
-- routers
pub record AreJobChanges (adverts : List Advertisement) (job : EditJob) (changes : List Change)
    : Type 0 where
  pub single : List failure.AreaFailure
  pub are_single : AreAllFailures adverts single
  pub downs : AreAllNamed adverts single Down (vec_items job.down)
  pub costs : AreAllNamed adverts single Cost (vec_items job.costs)
  pub drains : AreAllNamed adverts single Drain (vec_items job.drains)
  pub changes_are : changes ≡ downs.0 ++ costs.0 ++ drains.0

-- this is the message for the first word of a job that names nothing, where all this may fail
pub data IsFirstOf (adverts : List Advertisement) (single : List failure.AreaFailure)
    (job : EditJob) (text : List ℕ) : Type 0 where
  in_downs : IsFirstUnknownAmong adverts single Down (vec_items job.down) text
      → IsFirstOf adverts single job text
  in_costs : AreAllNamed adverts single Down (vec_items job.down)
      → IsFirstUnknownAmong adverts single Cost (vec_items job.costs) text
      → IsFirstOf adverts single job text
  in_drains : AreAllNamed adverts single Down (vec_items job.down)
      → AreAllNamed adverts single Cost (vec_items job.costs)
      → IsFirstUnknownAmong adverts single Drain (vec_items job.drains) text
      → IsFirstOf adverts single job text

-- this is the message for the first word of a job that names nothing
abbrev pub IsFirstUnknown : List Advertisement → EditJob → List ℕ → Type 0
IsFirstUnknown adverts job text =
    (single : List failure.AreaFailure) × AreAllFailures adverts single
    × IsFirstOf adverts single job text

-- why there are no changes: such a message, or memory ran out
abbrev pub IsFaultOfEditWords : (List ℕ → Type 0) → WordFault → Type 0
IsFaultOfEditWords Is (fault.Word text) = Is (string_bytes text)
IsFaultOfEditWords Is fault.Memory = ⊤
