-- Reports of failures, one after the other.
use Rattle.std.proofs.Common.{◌≡◌, ◌∙◌, ◌↔◌, ◌==◌, ℕ, Bool, true, false, not, List, map, filter, ap, sym, refl, subst, get_or, eq-eqb, eqb-true, All}
use Rattle.std.proofs.lemmas.List.Kept.{AllPairs-filter}
use Rattle.std.specs.List.{AllPairs, AllZip, Contains}
use Rattle.ospf_base.specs.declared.ids.RouterId.{RouterId}
use Rattle.ospf_graph.specs.Advertisements.{Advertisement}
use Rattle.ospf_harm.specs.Carrier.{IsFailureBy, together}
use Rattle.ospf_whatif.specs.Effect.{IsEffectIn}
use Rattle.ospf_whatif.specs.Failure.{without_all}
use Rattle.ospf_whatif.specs.Single.{IsFailureBefore}
use Rattle.ospf_harm.specs.declared.carrier.Breakdown.{Breakdown}
use Rattle.ospf_harm.specs.declared.carrier.Carrier.{Carrier}
use Rattle.ospf_whatif.specs.declared.failure.AreaFailure.{AreaFailure}
use Rattle.ospf_whatif.specs.declared.failure.AreaFailure.TheVariants.{Attachment, End, Link, Links, Network, Router, Stub}
use Rattle.ospf_whatif.proofs.LessLemmas.{kept_of, of_kept}
use Rattle.ospf_harm.proofs.FoundLemmas.{all_seen, effect_by, same_failures}
use Rattle.std.specs.Prelude.{IsPermutation}
use Rattle.std.specs.List.Sorted.{IsSorted}
use Rattle.ospf_graph.specs.Routes.{IsTable}
use Rattle.ospf_harm.specs.Cases.{AreCases}
use Rattle.ospf_harm.specs.declared.cases.FailureCases.{FailureCases}
use Rattle.ospf_harm.specs.Reports.{AreReportsFound, IsReported, report_cmp, AreReports, IsOtherFailure, IsReportOf, ReportValue, is_of}
use Rattle.ospf_graph.specs.declared.route.Route.{Route}
use Rattle.ospf_harm.specs.Together.{AreSingle}

-- ---- failures but that of the root

abbrev pub is_other : RouterId → AreaFailure → Bool
is_other root f = not (is_of root f)

pub other_to : (root : RouterId) (f : AreaFailure) → is_other root f ≡ true → f ≡ Router root → ⊥
other_to root f e is =
    let same : (root.0 == root.0) ≡ true = eq-eqb root.0 root.0 refl in
    let here : is_other root (Router root) ≡ true = subst (λ (g : AreaFailure). is_other root g ≡ true) is e in
    let wrong : not true ≡ true = subst (λ (b : Bool). not b ≡ true) same here in
    cc

pub other_from : (root : RouterId) (f : AreaFailure) → (f ≡ Router root → ⊥) → is_other root f ≡ true
other_from root (Link a b subnet) differs = refl
other_from root (End a b subnet) differs = refl
other_from root (Links a b) differs = refl
other_from root (Attachment router network) differs = refl
other_from root (Network network) differs = refl
other_from root (Stub router prefix) differs = refl
other_from root (Router gone) differs = go (gone.0 == root.0) refl
  where
    go : (b : Bool) → (gone.0 == root.0) ≡ b → not b ≡ true
    go false e = refl
    go true e = absurd (differs (ap (λ (n : ℕ). let r : RouterId = record { 0 = n } in Router r) (eqb-true gone.0 root.0 e)))

pub others_are : (carrier : Carrier) (adverts : List Advertisement) (root : RouterId) (all kept : List AreaFailure) → kept ≡ filter (λ f. not (is_of root f)) all
    → ((f : AreaFailure) → Contains all f ↔ IsFailureBy carrier adverts f) → (f : AreaFailure) → Contains kept f ↔ IsOtherFailure carrier adverts root f
others_are carrier adverts root all kept is are f = (
  λ m. let k = kept_of (is_other root) all f (subst (λ (l : List AreaFailure). Contains l f) is m) in ((are f).0 k.0, other_to root f k.1),
  λ o. subst (λ (l : List AreaFailure). Contains l f) (sym is) (of_kept (is_other root) all f ((are f).1 o.0) (other_from root f o.1)),
)

pub others_rise : (root : RouterId) (all kept : List AreaFailure) → kept ≡ filter (λ f. not (is_of root f)) all → AllPairs IsFailureBefore all → AllPairs IsFailureBefore kept
others_rise root all kept is rise = subst (AllPairs IsFailureBefore) (sym is) (AllPairs-filter IsFailureBefore (is_other root) all rise)

-- ---- all reports

pub reports_are : (carrier : Carrier) (adverts : List Advertisement) (root : RouterId) (table : List Route) (single failures : List AreaFailure) (bs : List Breakdown)
    (reports : List ReportValue) → AreSingle adverts single → ((f : AreaFailure) → Contains failures f ↔ IsOtherFailure carrier adverts root f)
    → AllPairs IsFailureBefore failures → map (λ b. b.failure) bs ≡ failures → All (λ b. b.parts.items ≡ together carrier single b.failure) bs
    → AllZip (IsReportOf adverts root table) bs reports → AreReports carrier adverts root table reports
reports_are carrier adverts root table single failures bs reports are_single all rising names parts found =
    let R = IsReportOf adverts root table in
    let failure_of = λ (r : ReportValue). r.0 in
    let named : map failure_of reports ≡ failures = same_failures failure_of R (λ b r is. is.failure_is) bs reports found ∙ names in
    let seen = all_seen failure_of R (λ b r is. is.failure_is) (λ gone r. IsEffectIn (without_all gone adverts) root table r.1) (together carrier single)
    (λ b r is. is.effect) bs reports parts found in
    record {
      single = single;
      are_single = are_single;
      whole = subst (λ (l : List AreaFailure). (f : AreaFailure) → Contains l f ↔ IsOtherFailure carrier adverts root f) (sym named) all;
      rising = subst (AllPairs IsFailureBefore) (sym named) rising;
      changed = λ k d lt. effect_by carrier single adverts root (get_or reports k d).0 table (get_or reports k d).1 (seen k d lt);
    }

-- ---- what is printed of them

pub reported_of : (carrier : Carrier) (adverts : List Advertisement) (root : RouterId) (cases : FailureCases) (reports printed : List ReportValue) → AreCases carrier adverts root cases
    → AreReportsFound adverts cases reports → IsPermutation reports printed → IsSorted report_cmp printed → IsReported carrier adverts root cases.before.table printed
reported_of carrier adverts root cases reports printed are found permuted in_order =
    let table = cases.before.table in
    let bs = cases.breakdowns.items in
    record {
      reports = reports;
      are_reports = reports_are carrier adverts root table are.single (map (λ b. b.failure) bs) bs reports are.are_single are.whole are.rising refl are.parts
          (subst (λ (r : RouterId). AllZip (IsReportOf adverts r table) bs reports) are.root_is found);
      permuted = permuted;
      in_order = in_order;
    }

pub table_of_cases : (carrier : Carrier) (adverts : List Advertisement) (root : RouterId) (cases : FailureCases) → AreCases carrier adverts root cases
    → IsTable adverts root cases.before.table
table_of_cases carrier adverts root cases are = subst (λ (r : RouterId). IsTable adverts r cases.before.table) are.root_is are.ready.before.table
