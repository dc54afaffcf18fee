-- Parts of definitions of specs/ by names of their own, for the proofs.
use Rattle.std.specs.Prelude.{Bool, true, false, ◌==◌, ◌&&◌, if◌then◌else◌, ℕ, Option, None, Some}
use Rattle.ospf_base.specs.Ticks.{have_passed}
use Rattle.ospf_lsa.specs.Recency.{recency}
use Rattle.ospf_lsa.specs.declared.recency.Recency.{Recency}
use Rattle.ospf_lsa.specs.declared.recency.Recency.TheVariants.{Newer, Older, Same}
use Rattle.ospf_flood.specs.declared.offer.Offer.{Offer}
use Rattle.ospf_flood.specs.declared.offer.Offer.TheVariants.{PassesOver, Satisfies, Lists}
use Rattle.ospf_base.specs.declared.ids.LsaKey.{LsaKey}
use Rattle.ospf_lsa.specs.declared.header.LsaHeader.{LsaHeader}
use Rattle.ospf_neighbour.specs.Lists.{unrequested, relisted}
use Rattle.ospf_neighbour.specs.Neighbour.{NeighbourValue}
use Rattle.ospf_flood.specs.Offers.{instance_with}
use Rattle.ospf_lsdb.specs.Database.{Entry}
use Rattle.ospf_neighbour.specs.declared.neighbour.Listed.{Listed}
use Rattle.ospf_flood.specs.declared.rule.LsaRule.{LsaRule}
use Rattle.ospf_flood.specs.declared.rule.LsaRule.TheVariants.{TooSoon, Installs, BadRequest, Duplicate, Stale}
use Rattle.ospf_flood.specs.declared.acknowledgement.AcknowledgementCase.{AcknowledgementCase}
use Rattle.ospf_flood.specs.declared.acknowledgement.AcknowledgementCase.TheVariants.{FloodedBack, NotFloodedBack, Implied, NotImplied}

-- the neighbour has described an instance to which the new one is this (step 1b): one that it has later than the new
-- one, the very same, or an older one. The neighbour that the LSA came from is passed over then (step 1c)
abbrev pub offer_over : Recency → Bool → Offer
offer_over o from_it = elim o [
  | Older ↦ PassesOver
  | Same ↦ Satisfies
  | Newer ↦ (if from_it then Satisfies else Lists)
]

-- the LSA against what is looked at of the request list (steps 1b to 1d)
abbrev pub offer_by : LsaHeader → Option LsaHeader → Bool → Offer
offer_by h seen from_it = elim seen [
  | None ↦ (if from_it then PassesOver else Lists)
  | Some entry ↦ offer_over (recency h entry) from_it
]

-- it goes on the retransmission list
abbrev pub lists : Offer → Bool
lists o = elim o [
  | Lists ↦ true
  | _ ↦ false
]

-- the neighbour after an offer: the request is satisfied, and the instance waits for an acknowledgement
abbrev pub after_offer : Offer → LsaKey → LsaHeader → ℕ → NeighbourValue → NeighbourValue
after_offer o key h tick n = elim o [
  | PassesOver ↦ n
  | Satisfies ↦ unrequested key n
  | Lists ↦ relisted (instance_with key h) tick (unrequested key n)
]

-- RxmtInterval has passed since an entry was last sent, or put on the list (13.6)
abbrev pub is_resend_due : ℕ → ℕ → Listed → Bool
is_resend_due retransmit tick l = have_passed retransmit l.sent_at tick

-- the copy came by flooding in this very tick (13, step 5a)
abbrev pub came_just_now : Entry → ℕ → Bool
came_just_now copy tick = copy.by_flooding && (copy.tick == tick)

-- the rule of an LSA that is this to the copy (13, steps 5 to 8)
abbrev pub rule_over : Recency → Entry → Bool → ℕ → LsaRule
rule_over r copy requested tick = elim r [
  | Newer ↦ (if came_just_now copy tick then TooSoon else Installs)
  | Same ↦ (if requested then BadRequest else Duplicate)
  | Older ↦ (if requested then BadRequest else Stale)
]

-- a newer LSA, which was or was not flooded back out of the link that it came on
abbrev pub case_of_newer : Bool → AcknowledgementCase
case_of_newer flooded_back = if flooded_back then FloodedBack else NotFloodedBack

-- the same instance as the copy, which was or was not on the sender's retransmission list
abbrev pub case_of_same : Bool → AcknowledgementCase
case_of_same implied = if implied then Implied else NotImplied
