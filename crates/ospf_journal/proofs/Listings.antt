-- Which instances are listed.
use Rattle.std.proofs.Common.{Bool, ◌≡◌, ◌∙◌, ℕ, List, Contains, ap, false, refl, subst, sym, true}
use Rattle.std.specs.List.{list_any}
use Rattle.std.proofs.lemmas.List.Folds.{Any-from_list_any, list_any-from_Any}
use Rattle.ospf_base.proofs.SameKeys.{same_instance-eq, same_instance-refl}
use Rattle.ospf_base.specs.Instances.{same_instance}
use Rattle.ospf_base.specs.declared.ids.Instance.{Instance}
use Rattle.ospf_lsa.proofs.ListingLemmas.{one_key}
use Rattle.ospf_lsa.specs.Listing.{HasKey, IsListing}
use Rattle.ospf_lsa.specs.Lsa.{instance_of, key_of}
use Rattle.ospf_journal.specs.Differences.{lists_instance}

pub listed_true : (lsas : List (List ℕ)) (i : Instance) → lists_instance lsas i ≡ true → (lsa : List ℕ) × Contains lsas lsa × (instance_of lsa ≡ i)
listed_true lsas i h =
    let a = Any-from_list_any (λ l. same_instance (instance_of l) i) lsas h in
    (a.1, (a.0, a.2, a.3), same_instance-eq (instance_of a.1) i a.4)

pub true_listed : (lsas : List (List ℕ)) (i : Instance) → (lsa : List ℕ) × Contains lsas lsa × (instance_of lsa ≡ i) → lists_instance lsas i ≡ true
true_listed lsas i (lsa, at, is) =
    list_any-from_Any (λ l. same_instance (instance_of l) i) lsas
    (at.0, lsa, at.1, at.2, subst (λ j. same_instance (instance_of lsa) j ≡ true) is (same_instance-refl (instance_of lsa)))

-- an LSA of the key, and of no other
pub lists_found : (lsas : List (List ℕ)) (lsa : List ℕ) (i : Instance) → IsListing lsas → Contains lsas lsa → key_of lsa ≡ i.key
    → same_instance (instance_of lsa) i ≡ lists_instance lsas i
lists_found lsas lsa i listing at own = go (lists_instance lsas i) refl
  where
    go : (b : Bool) → lists_instance lsas i ≡ b → same_instance (instance_of lsa) i ≡ b
    go true listed =
        let it = listed_true lsas i listed in
        let key : key_of it.0 ≡ key_of lsa = ap (λ (j : Instance). j.key) it.2 ∙ sym own in
        let one : it.0 ≡ lsa = one_key lsas listing.rising it.0 lsa it.1 at key in
        let is : instance_of lsa ≡ i = ap instance_of (sym one) ∙ it.2 in
        subst (λ (j : Instance). same_instance (instance_of lsa) j ≡ true) is (same_instance-refl (instance_of lsa))
    go false not_listed = differs (same_instance (instance_of lsa) i) refl
      where
        differs : (b : Bool) → same_instance (instance_of lsa) i ≡ b → b ≡ false
        differs false is = refl
        differs true is =
            let listed : lists_instance lsas i ≡ true = true_listed lsas i (lsa, at, same_instance-eq (instance_of lsa) i is) in
            let both : true ≡ false = sym listed ∙ not_listed in
            cc

pub lists_none : (lsas : List (List ℕ)) (i : Instance) → (HasKey lsas i.key → ⊥) → false ≡ lists_instance lsas i
lists_none lsas i none = go (lists_instance lsas i) refl
  where
    go : (b : Bool) → lists_instance lsas i ≡ b → false ≡ b
    go false is = refl
    go true is =
        let it = listed_true lsas i is in
        absurd (none (it.1.0, it.0, it.1.1, it.1.2, ap (λ (j : Instance). j.key) it.2))
