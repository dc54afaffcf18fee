-- An own LSA as it is issued, from what each call does.
use Rattle.std.proofs.Common.{◌≡◌, ◌++◌, ℕ, ℤ, List, [], ◌∷◌, None, ap, subst, ◌∙◌}
use Rattle.ospf_base.specs.declared.ids.LsaKey.{LsaKey}
use Rattle.ospf_lsa.specs.Lsa.{IsLsa}
use Rattle.ospf_lsa.specs.Value.{IsMade}
use Rattle.ospf_area.specs.Outputs.{OutputsValue}
use Rattle.ospf_area.specs.Sending.{and_sends}
use Rattle.ospf_area.specs.State.{AreaValue}
use Rattle.ospf_area.specs.Updates.Meets.{Stores}
use Rattle.ospf_area.proofs.Updates.Words.{store_updates}
use Rattle.ospf_originate.specs.Wants.Made.{lsa_value}
use Rattle.ospf_originate.specs.Numbers.{issued}
use Rattle.ospf_originate.specs.Steps.{Issues}
use Rattle.ospf_originate.proofs.Words.{and_issues}
use Rattle.ospf_originate.specs.Wants.Wanted.{WantedValue, wanted_key}

ticked : LsaKey → ℕ → AreaValue → AreaValue
ticked key tick s = record s { numbering = issued key tick s.numbering }

pub issue_is : (w : WantedValue) (key : LsaKey) (number : ℤ) (lsa seen : List ℕ) (s0 s1 s2 : AreaValue) (o0 o1 o2 : OutputsValue)
    → key ≡ wanted_key w → IsMade (lsa_value number w) lsa → seen ≡ lsa → IsLsa seen → o1 ≡ record o0 { issued = o0.issued ++ seen ∷ [] }
    → Stores lsa None s0 s1 → o2 ≡ and_sends o1 (store_updates lsa None s0) → s2 ≡ record s1 { numbering = issued key s1.tick s1.numbering } → Issues w number s0 o0 o2 s2
unfolding ticked
issue_is w key number lsa seen s0 s1 s2 o0 o1 o2 named made same valid told stores sends ticks = record {
  lsa = lsa;
  is_lsa = subst IsLsa same valid;
  made = made;
  stored = s1;
  stores = stores;
  state = ticks ∙ ap (λ (k : LsaKey). ticked k s1.tick s1) named ∙ ap (λ (t : ℕ). ticked (wanted_key w) t s1) (ap (λ (s : AreaValue). s.tick) stores.rest);
  outputs = sends ∙ ap (λ (o : OutputsValue). and_sends o (store_updates lsa None s0)) told ∙ ap (λ (l : List ℕ). and_issues o0 (store_updates lsa None s0) l) same;
}
