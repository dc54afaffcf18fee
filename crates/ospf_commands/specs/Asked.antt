-- What is printed of a router, of a walk, and of what a link waits for.
use Rattle.std.specs.Prelude.{◌≡◌, ◌++◌, ℕ, Bool, List, [], Ok, Err, Option, None, Some, String, codes, false, is_some, true, unwrap_or}
use Rattle.std.specs.List.{find}
use Rattle.std.specs.declared.alloc.Global.{Global}
use Rattle.ospf_area.specs.State.{AreaValue}
use Rattle.ospf_base.specs.Text.{number_text}
use Rattle.ospf_base.specs.declared.ids.Addr.{Addr}
use Rattle.ospf_base.specs.declared.ids.RouterId.{RouterId}
use Rattle.ospf_base.specs.declared.event.event.WorldFault.{WorldFault}
use Rattle.ospf_base.specs.declared.event.event.WorldFault.TheVariants as fault
use Rattle.ospf_graph.specs.EdgeLists.Listed.{advertisements_of}
use Rattle.ospf_inspect.specs.Lines.{AreLines}
use Rattle.ospf_inspect.specs.Lsas.{SaysOfLsa}
use Rattle.ospf_journal.specs.Counted.{drop_lines}
use Rattle.ospf_router.specs.Routers.{RouterValue, listing_of}
use Rattle.ospf_script.specs.Words.{Text}
use Rattle.ospf_script.specs.declared.command.View.{View}
use Rattle.ospf_views.specs.Shown.{headed, shown_lines}
use Rattle.ospf_world.specs.Worlds.{is_slot_of, world_of}
use Rattle.ospf_world.specs.declared.walk.Walk.{Walk}
use Rattle.ospf_views.specs.Datagrams.{datagram_lines}
use Rattle.ospf_views.specs.Offered.{why_lines}
use Rattle.ospf_commands.specs.Premise.{IsPremiseOf}
use Rattle.ospf_views.specs.Disagreements.{why_headline_line}
use Rattle.ospf_commands.specs.Shown.{said_line, walked_lines}
use Rattle.ospf_commands.specs.Simulations.{Answer}
use Rattle.ospf_commands.specs.Worlds.{IsNotLent, IsWalkFrom, LendsRouter, SlotValue, WorldValue}
use Rattle.ospf_views.specs.declared.disagreement.Disagreement.{Disagreement}
use Rattle.ospf_commands.specs.declared.simulation.Simulation.{Simulation}

-- a text is printed
abbrev pub IsTextSaid : String Global → Answer → Text → Type 0
IsTextSaid said answer text = (answer ≡ Ok tt) × (text ≡ said_line said)

-- the view of a running router is printed; for any other nothing is printed, and the answer says
-- why
pub data IsViewShown (view : View) (r : RouterId) (s : Simulation) (answer : Answer) (text : Text)
    : Type 0 where
  is_shown : (x : RouterValue) → LendsRouter s.world r x → answer ≡ Ok tt
      → text ≡ shown_lines s.is_labelled view r x → IsViewShown view r s answer text
  is_not_shown : (f : WorldFault) → IsNotLent s.world r f → answer ≡ Err f → text ≡ []
      → IsViewShown view r s answer text

-- the walk from a router to an address with these choices is printed and remembered; or the answer
-- says why there is none
pub data IsWalked (from : RouterId) (address : Addr) (choices : List ℕ) (s s' : Simulation)
    (answer : Answer) (text : Text) : Type 0 where
  is_walked : (walk : Walk) → IsWalkFrom s.world from address.0 choices (Ok walk) → answer ≡ Ok tt
      → text ≡ walked_lines s.is_labelled from address walk → s' ≡ record s { walk = Some walk }
      → IsWalked from address choices s s' answer text
  is_not_walked : (f : WorldFault) → IsWalkFrom s.world from address.0 choices (Err f)
      → answer ≡ Err f → text ≡ [] → s' ≡ s
      → IsWalked from address choices s s' answer text

-- what a link of a running router, or a Router ID on it, waits for is printed, and why it would
-- drop the packet that arrived last; or the answer says why not: there is no such link, or the
-- router does not run
pub data IsWhyAnswered (r : RouterId) (link : ℕ) (neighbour : Option RouterId) (s : Simulation)
    (answer : Answer) (text : Text) : Type 0 where
  is_explained : (x : RouterValue) → LendsRouter s.world r x
      → why_lines s.world r link neighbour x.area ≡ Some text → answer ≡ Ok tt
      → IsWhyAnswered r link neighbour s answer text
  is_on_no_link : (x : RouterValue) → LendsRouter s.world r x
      → why_lines s.world r link neighbour x.area ≡ None → answer ≡ Err fault.NoLink → text ≡ []
      → IsWhyAnswered r link neighbour s answer text
  is_not_explained : (f : WorldFault) → IsNotLent s.world r f → answer ≡ Err f → text ≡ []
      → IsWhyAnswered r link neighbour s answer text

-- whether the premise of the headline holds for a running router is printed, or which router is the
-- first that differs; or the answer says why not
pub data IsWhyHeadlineAnswered (r : RouterId) (s : Simulation) (answer : Answer) (text : Text)
    : Type 0 where
  premise_is_told : (found : Option Disagreement) → IsPremiseOf (world_of s.world) r (Ok found)
      → answer ≡ Ok tt → text ≡ why_headline_line r found → IsWhyHeadlineAnswered r s answer text
  premise_is_not_told : (f : WorldFault) → IsPremiseOf (world_of s.world) r (Err f)
      → answer ≡ Err f → text ≡ [] → IsWhyHeadlineAnswered r s answer text

-- how many datagrams are shown: as many as requested, else 16
abbrev pub most_shown : Option ℕ → ℕ
most_shown most = unwrap_or most 16

-- the datagrams that a round offers to a running router are printed, at most this many of the last
-- ones; or the answer says why not
pub data AreDatagramsShown (r : RouterId) (most : Option ℕ) (s : Simulation) (answer : Answer)
    (text : Text) : Type 0 where
  are_shown : (x : RouterValue) → LendsRouter s.world r x → answer ≡ Ok tt
      → text ≡ datagram_lines s.world r (most_shown most) x.area
      → AreDatagramsShown r most s answer text
  are_not_shown : (f : WorldFault) → IsNotLent s.world r f → answer ≡ Err f → text ≡ []
      → AreDatagramsShown r most s answer text

-- the contents of the LSAs that a router lists, which may have stopped: the lines of each LSA, in
-- order
abbrev pub AreLsasOf : Option AreaValue → Text → Type 0
AreLsasOf area text =
    AreLines (SaysOfLsa (advertisements_of (listing_of area))) (listing_of area) text

-- the heading above them: the router whose LSAs they are
abbrev pub lsas_heading : RouterId → Text
lsas_heading r = codes "lsas of " ++ number_text r.0 ++ codes ": what each LSA says\n"

-- the contents, below that heading if labels are on
abbrev pub AreLsasBelow : Bool → RouterId → Option AreaValue → Text → Type 0
AreLsasBelow is_labelled r area text =
    (lines : Text) × AreLsasOf area lines × (text ≡ headed is_labelled (lsas_heading r) lines)

-- those of a running router are printed; or memory runs out; or the answer says why not
pub data AreLsasShown (r : RouterId) (s : Simulation) (answer : Answer) (text : Text) : Type 0 where
  lsas_are_shown : (x : RouterValue) → LendsRouter s.world r x → answer ≡ Ok tt
      → AreLsasBelow s.is_labelled r x.area text → AreLsasShown r s answer text
  no_room_for_lsas : answer ≡ Err (fault.Memory false) → text ≡ [] → AreLsasShown r s answer text
  lsas_are_not_shown : (f : WorldFault) → IsNotLent s.world r f → answer ≡ Err f → text ≡ []
      → AreLsasShown r s answer text

-- the router of a Router ID, running or not, if there is one
abbrev pub slot_at : WorldValue → RouterId → Option SlotValue
slot_at w r = find (is_slot_of r.0) w.slots

-- what a running router dropped since it started is printed; or the answer says why not
pub data AreDropsShown (r : RouterId) (s : Simulation) (answer : Answer) (text : Text)
    : Type 0 where
  drops_are_shown : (x : SlotValue) → slot_at s.world r ≡ Some x → is_some x.running ≡ true
      → answer ≡ Ok tt → text ≡ drop_lines x.drops
      → AreDropsShown r s answer text
  of_one_stopped : (x : SlotValue) → slot_at s.world r ≡ Some x → is_some x.running ≡ false
      → answer ≡ Err fault.NotRunning → text ≡ []
      → AreDropsShown r s answer text
  of_nobody : slot_at s.world r ≡ None → answer ≡ Err fault.NoRouter → text ≡ []
      → AreDropsShown r s answer text
