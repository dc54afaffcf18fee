-- The laws that follow at once from what a step is by its exact rules, and from what it accounts for.
use Rattle.std.proofs.Common.{◌≡◌, ◌⊎◌, inl, inr, ℕ, None, false, sym, ap, ◌∙◌}
use Rattle.std.specs.Option.{is_some}
use Rattle.ospf_area.specs.State.{Awaits}
use Rattle.ospf_base.specs.declared.ids.Instance.{Instance}
use Rattle.ospf_base.specs.declared.ids.RouterId.{RouterId}
use Rattle.ospf_graph.specs.EdgeLists.Listed.{advertisements_of}
use Rattle.ospf_graph.specs.Routes.{IsTable}
use Rattle.ospf_router.specs.Chains.{HasKeptState, OfEachStep}
use Rattle.ospf_router.specs.Laws.{DropLaw, ProvenanceLaw, RetransmissionLaw, TableLaw}
use Rattle.ospf_router.specs.Stepped.{Stepped, heard, stepped}
use Rattle.ospf_lsdb.specs.Database.{listed}
use Rattle.ospf_router.specs.AreaStep.Accounts.{Accounts, MayLeave}
use Rattle.ospf_router.specs.AreaStep.Drops.{is_dropped}
use Rattle.ospf_router.specs.AreaStep.Lawful.{IsLawful, StepsAreLawful}
use Rattle.ospf_router.specs.AreaStep.Step.{Event}
use Rattle.ospf_router.specs.AreaStep.Steps.{StepsArea}
use Rattle.ospf_router.specs.Routers.{IsKept, RouterValue}
use Rattle.ospf_router.specs.Steps.{Steps}
use Rattle.ospf_router.specs.declared.router.Step.{Step}

-- a step by the exact rules, which is lawful, and after which the table is that of the listing
pub record IsExact (d : Stepped) : Type 0 where
  pub exact : StepsArea d.event d.before d.dropped d.out d.after
  pub lawful : IsLawful d.event d.before d.out d.after
  pub table : IsTable (advertisements_of (listed d.after.database)) d.after.router d.table

abbrev pub OfExact : (Stepped → Type 0) → Type 0
OfExact Law = (d : Stepped) → IsExact d → Law d

-- the steps of a router are such
pub of_steps : (Law : Stepped → Type 0) → OfExact Law → StepsAreLawful → OfEachStep Law
of_steps Law law lawful e before t after kept is =
    let k : IsKept is.area = kept is.area is.runs in
    law (stepped e before t after is) (record { exact = is.steps; lawful = lawful e is.area t.dropped t.out is.next k.fit k.sound is.steps; table = is.routes.routes })

-- ---- four laws

pub tables : OfExact TableLaw
tables d is = is.table

pub drops : OfExact DropLaw
drops d is = (is.exact.cause, (λ dropped. (is.exact.unchanged dropped, is.exact.silent dropped)))

pub provenance : OfExact ProvenanceLaw
provenance d is =
    let a : Accounts (heard d) d.before d.out d.after = is.lawful.accounts in
    (a.bears, a.database, a.updates, a.names, a.named, a.asks)

leaves : (d : Stepped) → IsExact d → (l : ℕ) (q : RouterId) (i : Instance) → Awaits d.before l q i → Awaits d.after l q i ⊎ MayLeave (heard d) d.before d.out d.after l q i
leaves d is l q i waits = elim (is.lawful.accounts.leaves l q i waits) [ inl still ↦ inl still.awaits | inr may ↦ inr may ]

pub retransmission : OfExact RetransmissionLaw
retransmission d is = (leaves d is, is.lawful.accounts.listed)

-- ---- for the others

pub not_dropped : (d : Stepped) → IsExact d → d.dropped ≡ None → is_dropped d.event d.before ≡ false
not_dropped d is none = ap is_some (sym is.exact.cause ∙ none)
