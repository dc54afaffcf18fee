-- What a world answers that is asked for a router.
use Rattle.std.proofs.Common.{◌≡◌, ◌∙◌, ap, sym, subst, refl, ℕ, List, [], Option, None, Some, Ok, Err, option_map}
use Rattle.std.specs.Prelude.{String, string_bytes}
use Rattle.std.specs.declared.alloc.Global.{Global}
use Rattle.std.specs.Borrow.{Bor}
use Rattle.ospf_base.specs.declared.ids.RouterId.{RouterId}
use Rattle.ospf_world.specs.World.{Member, member, of_member, unless_stopped}
use Rattle.ospf_base.specs.declared.event.event.WorldFault.{WorldFault}
use Rattle.ospf_base.specs.declared.event.event.WorldFault.TheVariants as fault
use Rattle.ospf_router.specs.Routers.{RouterValue}
use Rattle.ospf_files.proofs.Written.{nothing_begun}
use Rattle.ospf_commands.specs.Asked.{IsWhyAnswered, is_explained, is_on_no_link}
use Rattle.ospf_views.specs.Offered.{why_lines}
use Rattle.ospf_commands.specs.Printed.{IsPrintedBegun}
use Rattle.ospf_commands.specs.Worlds.{IsNotLent, LendsRouter, WorldValue}
use Rattle.ospf_commands.specs.declared.simulation.Simulation.{Simulation}
use Rattle.ospf_world.specs.Worlds.{IsLent, Lends, NoRouter, NotRunning, Runs, world_of}

pub lent : (w : WorldValue) (r : RouterId) (x : Bor RouterValue) → Lends (world_of w) r (Ok x) → LendsRouter w r x.now
lent w r x (Runs m y is same lends) =
    let one : x ≡ y = cc in
    (m, is, subst (λ b. IsLent m.running b.now) (sym one) lends)
lent w r x (NoRouter none same) = absurd (cc same)
lent w r x (NotRunning m is stopped same) = absurd (cc same)

stops : (m : Member) → m.running ≡ None → unless_stopped m ≡ Some fault.NotRunning
stops m stopped = rw stopped refl

pub not_lent : (w : WorldValue) (r : RouterId) (f : WorldFault) → Lends (world_of w) r (Err f) → IsNotLent w r f
not_lent w r f (Runs m y is same lends) = absurd (cc same)
not_lent w r f (NoRouter none same) =
    let one : f ≡ fault.NoRouter = cc in
    subst (λ x. of_member unless_stopped (member (world_of w) r) ≡ Some x) (sym one) (ap (of_member unless_stopped) none)
not_lent w r f (NotRunning m is stopped same) =
    let one : f ≡ fault.NotRunning = cc in
    subst (λ x. of_member unless_stopped (member (world_of w) r) ≡ Some x) (sym one)
    (subst (λ x. of_member unless_stopped x ≡ Some fault.NotRunning) (sym is) (stops m stopped))

-- what a link waits for is known before it is written
pub why_not_begun : (s : Simulation) (r : RouterId) (link : ℕ) (neighbour : Option RouterId) (x : RouterValue) (o : Option (List ℕ)) → LendsRouter s.world r x
    → IsPrintedBegun (IsWhyAnswered r link neighbour s) o o
why_not_begun s r link neighbour x o lent = go (why_lines s.world r link neighbour x.area) refl
  where
    go : (found : Option (List ℕ)) → why_lines s.world r link neighbour x.area ≡ found → IsPrintedBegun (IsWhyAnswered r link neighbour s) o o
    go None is = record { answer = Err fault.NoLink; text = []; is_so = is_on_no_link x lent is refl refl; begun = nothing_begun o [] }
    go (Some text) is = record { answer = Ok tt; text = text; is_so = is_explained x lent is refl; begun = nothing_begun o text }

pub why_said : (found : Option (String Global)) (lines : String Global) (said : Option (List ℕ)) → found ≡ Some lines → option_map string_bytes found ≡ said
    → said ≡ Some (string_bytes lines)
why_said found lines said is same = sym same ∙ ap (option_map string_bytes) is

pub why_unsaid : (found : Option (String Global)) (said : Option (List ℕ)) → found ≡ None → option_map string_bytes found ≡ said → said ≡ None
why_unsaid found said is same = sym same ∙ ap (option_map string_bytes) is
