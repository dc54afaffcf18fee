-- A chain of parts, from contracts that speak of the outputs so far.
use Rattle.std.proofs.Common.{◌≡◌, ◌++◌, ℕ, Bool, false, List, [], ◌∷◌, Option, None, Some, refl, sym, ap, subst, ◌∙◌, append-nil, append_assoc}
use Rattle.ospf_base.specs.declared.ids.Instance.{Instance}
use Rattle.ospf_base.specs.declared.ids.LsaKey.{LsaKey}
use Rattle.ospf_flood.specs.declared.rule.LsaRule.{LsaRule}
use Rattle.ospf_flood.specs.declared.rule.LsaRule.TheVariants as rule
use Rattle.ospf_area.specs.Updates.Acks.{direct_out}
use Rattle.ospf_area.specs.Updates.Aging.{turned_area, turn_out}
use Rattle.ospf_area.specs.Acting.{Becomes}
use Rattle.ospf_area.specs.Updates.Meets.{MeetsLsa, MeetsRule, rule_met}
use Rattle.ospf_area.specs.Outputs.{OutputsValue, SentValue, no_outputs, sends, then_outputs, AreReadAsSent}
use Rattle.ospf_area.specs.Sending.{and_sends}
use Rattle.ospf_area.specs.State.{AreaValue}
use Rattle.ospf_area.specs.Updates.Updates.{TakesSlice, TakesUpdate}
use Rattle.ospf_area.proofs.Updates.Words.{TakesSlices}
use Rattle.ospf_area.specs.declared.flooding.PacketSource.{PacketSource}
use Rattle.ospf_router.specs.AreaStep.Neighbours.{Quiet}
use Rattle.ospf_router.specs.AreaStep.Parts.{LsaPart}
use Rattle.ospf_router.specs.AreaStep.Puts.{PutsOut}
use Rattle.ospf_router.specs.AreaStep.Step.{Event, Part, IsPart, Chain, StepLaws, lsa_parts, first_parts, last_parts}
use Rattle.ospf_router.specs.AreaStep.Step.Part.{LsaComes, Requests, DirectAcknowledgements}
use Rattle.ospf_router.proofs.AreaStep.Accountable.{then_nothing, AreRead-left, AreRead-right}
use Rattle.ospf_router.proofs.AreaStep.TurnAccounts.{turned-quiet, nothing-quiet}
use Rattle.ospf_area.proofs.Words.{and_takes}

made : List SentValue → List Instance → List (List ℕ) → List LsaKey → OutputsValue
made sent taken issued ended = record { sent = sent; taken = taken; issued = issued; ended = ended }

-- with nothing else taken, issued and ended
rest_nothing : (sent : List SentValue) (taken : List Instance) (out : OutputsValue) → made sent taken out.issued out.ended ≡ made sent taken (out.issued ++ []) (out.ended ++ [])
rest_nothing sent taken out = ap (λ xs. made sent taken xs out.ended) (sym (append-nil out.issued)) ∙ ap (λ xs. made sent taken (out.issued ++ []) xs) (sym (append-nil out.ended))

pub then_sends : (out : OutputsValue) (ds : List SentValue) → and_sends out ds ≡ then_outputs out (and_sends no_outputs ds)
unfolding made
then_sends out ds = ap (λ xs. made (out.sent ++ ds) xs out.issued out.ended) (sym (append-nil out.taken)) ∙ rest_nothing (out.sent ++ ds) (out.taken ++ []) out

then_takes : (out : OutputsValue) (ds : List SentValue) (i : Instance) → and_takes (and_sends out ds) i ≡ then_outputs out (and_takes (and_sends no_outputs ds) i)
unfolding made
then_takes out ds i = rest_nothing (out.sent ++ ds) (out.taken ++ i ∷ []) out

then_takes_one : (out : OutputsValue) (i : Instance) → and_takes out i ≡ then_outputs out (and_takes no_outputs i)
unfolding made
then_takes_one out i = ap (λ xs. made xs (out.taken ++ i ∷ []) out.issued out.ended) (sym (append-nil out.sent)) ∙ rest_nothing (out.sent ++ []) (out.taken ++ i ∷ []) out

pub then_assoc : (a b c : OutputsValue) → then_outputs (then_outputs a b) c ≡ then_outputs a (then_outputs b c)
unfolding made
then_assoc a b c =
    ap (λ xs. made xs ((a.taken ++ b.taken) ++ c.taken) ((a.issued ++ b.issued) ++ c.issued) ((a.ended ++ b.ended) ++ c.ended)) (append_assoc a.sent b.sent c.sent)
    ∙ (ap (λ xs. made (a.sent ++ (b.sent ++ c.sent)) xs ((a.issued ++ b.issued) ++ c.issued) ((a.ended ++ b.ended) ++ c.ended)) (append_assoc a.taken b.taken c.taken)
    ∙ (ap (λ xs. made (a.sent ++ (b.sent ++ c.sent)) (a.taken ++ (b.taken ++ c.taken)) xs ((a.ended ++ b.ended) ++ c.ended)) (append_assoc a.issued b.issued c.issued)
    ∙ ap (λ xs. made (a.sent ++ (b.sent ++ c.sent)) (a.taken ++ (b.taken ++ c.taken)) (a.issued ++ (b.issued ++ c.issued)) xs) (append_assoc a.ended b.ended c.ended)))

-- ---- chains

-- no part
pub puts_none : (s t : AreaValue) (out out' : OutputsValue) → t ≡ s → out' ≡ out → PutsOut (λ o. Chain [] s o t) out out'
puts_none s t out out' state outputs = record { own = no_outputs; is = record { state = state; outputs = refl }; behind = outputs ∙ sym (then_nothing out) }

-- a part, and then a chain
pub puts_more : (part : Part) (parts : List Part) (s t u : AreaValue) (out mid_out out' : OutputsValue) → PutsOut (λ o. IsPart part s o t) out mid_out → PutsOut (λ o. Chain parts t o u) mid_out out' → PutsOut (λ o. Chain (part ∷ parts) s o u) out out'
puts_more part parts s t u out mid_out out' first next = record {
  own = then_outputs first.own next.own;
  is = record { mid = t; first_out = first.own; next_out = next.own; first = first.is; next = next.is; both = refl };
  behind = next.behind ∙ (ap (λ o. then_outputs o next.own) first.behind ∙ then_assoc out first.own next.own);
}

-- a step that began with no outputs
pub step_from_chain : (is_dropped : Event → AreaValue → Bool) (event : Event) (before : AreaValue) (out : OutputsValue) (after : AreaValue) → is_dropped event before ≡ false → AreReadAsSent out.sent → PutsOut (λ o. Chain (first_parts event ++ last_parts) before o after) no_outputs out → StepLaws is_dropped event before out after
step_from_chain is_dropped event before out after taken read p = StepLaws.Takes taken read (subst (λ o. Chain (first_parts event ++ last_parts) before o after) (sym p.behind) p.is)

-- what is put behind, is read where all is
read_own : (R : OutputsValue → Type 0) (out out' : OutputsValue) → AreReadAsSent out'.sent → (p : PutsOut R out out') → AreReadAsSent p.own.sent
read_own R out out' read p = AreRead-right out p.own (subst (λ o. AreReadAsSent o.sent) p.behind read)

-- ---- an LSA of an Update

lsa_puts : (f : PacketSource) (lsa : List ℕ) (before : AreaValue) (out out' : OutputsValue) (after : AreaValue) → MeetsLsa f lsa before out out' after → PutsOut (λ o. MeetsLsa f lsa before no_outputs o after) out out'
lsa_puts f lsa before out out' after m = by (rule_met before f lsa) m
  where
    unchanged : Becomes before out out' after → PutsOut (λ o. Becomes before no_outputs o after) out out'
    unchanged u = record { own = no_outputs; is = record { state = u.state; outputs = refl }; behind = u.outputs ∙ sym (then_nothing out) }

    by : (r : Option LsaRule) → MeetsRule r f lsa before out out' after → PutsOut (λ o. MeetsRule r f lsa before no_outputs o after) out out'
    by None u = unchanged u
    by (Some rule.TooSoon) u = unchanged u
    by (Some rule.AcknowledgesExpired) a = record { own = _; is = record { state = a.state; outputs = refl }; behind = a.outputs ∙ then_takes_one out _ }
    by (Some rule.Installs) a = record { own = _; is = record { mid = a.mid; stores = a.stores; state = a.state; outputs = refl }; behind = a.outputs ∙ then_takes out _ _ }
    by (Some rule.BadRequest) a = record { own = _; is = record { state = a.state; outputs = refl }; behind = a.outputs ∙ then_sends out _ }
    by (Some rule.Duplicate) a = record { own = no_outputs; is = record { state = a.state; outputs = refl }; behind = a.outputs ∙ sym (then_nothing out) }
    by (Some rule.Stale) a = record { own = _; is = record { state = a.state; outputs = refl }; behind = a.outputs ∙ then_sends out _ }

pub requests_put : (s t : AreaValue) (out out' : OutputsValue) → t ≡ turned_area s → out' ≡ and_sends out (turn_out s) → AreReadAsSent out'.sent → PutsOut (λ o. Quiet s o t) out out'
requests_put s t out out' state outputs read = record {
  own = sends (turn_out s);
  is = subst (λ t. Quiet s (sends (turn_out s)) t) (sym state) (turned-quiet s (AreRead-right out (sends (turn_out s)) (subst (λ o. AreReadAsSent o.sent) (outputs ∙ then_sends out (turn_out s)) read)));
  behind = outputs ∙ then_sends out (turn_out s);
}

-- what is read in the end was read on the way
read_before : (R : OutputsValue → Type 0) (out out' : OutputsValue) → AreReadAsSent out'.sent → PutsOut R out out' → AreReadAsSent out.sent
read_before R out out' read p = AreRead-left out p.own (subst (λ o. AreReadAsSent o.sent) p.behind read)

-- one slice, with the Requests that become due by it, in front of what follows
slice_put : (f : PacketSource) (bytes : List ℕ) (parts : List Part) (s t u : AreaValue) (out mid_out out' : OutputsValue) → AreReadAsSent mid_out.sent → TakesSlice f bytes s out mid_out t → PutsOut (λ o. Chain parts t o u) mid_out out' → PutsOut (λ o. Chain (LsaComes f bytes ∷ Requests ∷ parts) s o u) out out'
slice_put f bytes parts s t u out mid_out out' read (TakesSlice.Met is mid so_far meets state outputs) next =
    let met = lsa_puts f bytes s out so_far mid meets in
    puts_more (LsaComes f bytes) (Requests ∷ parts) s mid u out so_far out' (record { own = met.own; is = LsaPart.Meets is met.is; behind = met.behind })
    (puts_more Requests parts mid t u so_far mid_out out' (requests_put mid t so_far mid_out state outputs read) next)
slice_put f bytes parts s t u out mid_out out' read (TakesSlice.PassedOver not_one passes outputs) next =
    let here : PutsOut (λ o. Chain parts t o u) out out' = subst (λ o. PutsOut (λ x. Chain parts t x u) o out') outputs next in
    puts_more (LsaComes f bytes) (Requests ∷ parts) s t u out out out' (record { own = no_outputs; is = LsaPart.PassedOver not_one passes refl; behind = sym (then_nothing out) })
    (puts_more Requests parts t t u out out out' (record { own = no_outputs; is = nothing-quiet t; behind = sym (then_nothing out) }) here)

slices_put : (f : PacketSource) (slices : List (List ℕ)) (rest : List Part) (s t u : AreaValue) (out mid_out out' : OutputsValue) → AreReadAsSent out'.sent → TakesSlices f slices s out mid_out t → PutsOut (λ o. Chain rest t o u) mid_out out' → PutsOut (λ o. Chain (lsa_parts f slices ++ rest) s o u) out out'
slices_put f [] rest s t u out mid_out out' read same next =
    subst (λ o. PutsOut (λ x. Chain rest s x u) o out') same.outputs (subst (λ t. PutsOut (λ x. Chain rest t x u) mid_out out') same.state next)
slices_put f (bytes ∷ slices) rest s t u out mid_out out' read (m, so_far, slice, more) next =
    let later = slices_put f slices rest m t u so_far mid_out out' read more next in
    slice_put f bytes (lsa_parts f slices ++ rest) s m u out so_far out' (read_before (λ o. Chain (lsa_parts f slices ++ rest) m o u) so_far out' read later) slice later

-- an Update, and then what follows: the chain of its parts
pub update_puts : (f : PacketSource) (slices : List (List ℕ)) (rest : List Part) (s t u : AreaValue) (out mid_out out' : OutputsValue) → AreReadAsSent out'.sent → TakesUpdate f slices s out mid_out t → PutsOut (λ o. Chain rest t o u) mid_out out' → PutsOut (λ o. Chain ((lsa_parts f slices ++ DirectAcknowledgements f ∷ []) ++ rest) s o u) out out'
update_puts f slices rest s t u out mid_out out' read update next =
    subst (λ parts. PutsOut (λ o. Chain parts s o u) out out') (sym (append_assoc (lsa_parts f slices) (DirectAcknowledgements f ∷ []) rest))
    (slices_put f slices (DirectAcknowledgements f ∷ rest) s update.mid u out update.so_far out' read update.takes
    (puts_more (DirectAcknowledgements f) rest update.mid t u update.so_far mid_out out' (record { own = sends (direct_out f update.mid); is = record { state = update.state; outputs = refl }; behind = update.outputs ∙ then_sends update.so_far (direct_out f update.mid) }) next))
