-- Words that name changes.
use Rattle.std.proofs.Common.{◌≡◌, ◌==◌, ◌&&◌, ◌⊎◌, ◌+◌, ◌^◌, ◌<◌, ◌≤◌, ◌++◌, ◌∷◌, ℕ, suc, Bool, true, false, List, [], String, map, take, drop, length, get_or, decimal, string_bytes, refl, sym, ap, subst, ◌∙◌, inl, inr, arith, eq-eqb, take-append-drop}
use Rattle.std.specs.List.{AllZip, Contains}
use Rattle.std.specs.declared.alloc.Global.{Global}
use Rattle.std.proofs.lemmas.Bool.{eqb-true}
use Rattle.std.proofs.lemmas.List.{take_all, take_more}
use Rattle.std.proofs.lemmas.List.Elements.{Contains-append_left, Contains-push, Contains-push_cases}
use Rattle.std.proofs.lemmas.Slice.Zip.{all_zipped_more}
use Rattle.std.proofs.Math.Seq.{drop-cons}
use Rattle.ospf_base.specs.declared.ids.Addr.{Addr}
use Rattle.ospf_base.specs.declared.ids.RouterId.{RouterId}
use Rattle.ospf_lsa.specs.declared.link.Link as link
use Rattle.ospf_lsa.specs.declared.link.LinkKind.{LinkKind}
use Rattle.ospf_lsa.specs.declared.link.LinkKind.TheVariants as kind
use Rattle.ospf_graph.specs.Advertisements.{Advertisement, network_lsa, router_lsa}
use Rattle.ospf_graph.proofs.ListLemmas.{member_of_map, member_to_map, more_members}
use Rattle.ospf_graph.specs.EdgeLists.Listed.{advertisement_of, advertisements_of}
use Rattle.ospf_whatif.specs.Subnets.{is_link_to}
use Rattle.ospf_whatif.specs.declared.failure.AreaFailure as failure
use Rattle.ospf_change.specs.Edit.Change.{IsCost, is_interface_link, changes_costs_of, picks}
use Rattle.ospf_change.specs.Edit.Words.{IsCostWord, IsCostWordAt, IsCostWordOf, IsFaultOfEditWords, IsFirstUnknownAmong, IsWordFor, IsUnknownHere, interface_front, pair_front}
use Rattle.ospf_change.specs.declared.edit.change.Change.{Change}
use Rattle.ospf_change.specs.declared.edit.change.Change.TheVariants as change
use Rattle.ospf_change.specs.declared.edit.words.WordFault.{WordFault}
use Rattle.ospf_change.specs.declared.edit.words.WordFault.TheVariants as fault
use Rattle.ospf_change.specs.declared.edit.words.WordKind.{WordKind}

-- ---- lists

-- one of each more
pub zip_more : {X Y : Type 0} (R : X → Y → Type 0) (xs : List X) (i : ℕ) (x : X) (ys : List Y) (y : Y) → i < length xs → x ≡ get_or xs i x → AllZip R (take i xs) ys → R x y
    → AllZip R (take (i + 1) xs) (ys ++ y ∷ [])
zip_more R xs i x ys y lt is zip r = rw (take_more xs i x lt, ← is) (all_zipped_more R (take i xs) ys x y zip r)

-- what holds of all before, and of one more
pub each_more : {X : Type 0} (P : X → Type 0) (xs : List X) (i : ℕ) (x : X) → i < length xs → x ≡ get_or xs i x → ((y : X) → Contains (take i xs) y → P y) → P x
    → (y : X) → Contains (take (i + 1) xs) y → P y
each_more P xs i x within is before here y m =
    elim ((more_members xs i x within y).0 m) [
      | inl old ↦ before y old
      | inr new ↦ subst P (is ∙ new) here
    ]

-- what holds of all before the end
pub each_of_all : {X : Type 0} (P : X → Type 0) (xs : List X) (i : ℕ) → length xs ≤ i → ((y : X) → Contains (take i xs) y → P y) → (y : X) → Contains xs y → P y
each_of_all P xs i end before y m = before y (subst (λ l. Contains l y) (sym (take_all i xs end)) m)

-- what holds of none at the start
pub none_yet : {X : Type 0} (P : X → Type 0) (xs : List X) (y : X) → Contains (take 0 xs) y → P y
none_yet P xs y m = absurd (let low = m.1 in omega arith)

pub only_one : {X : Type 0} (x y : X) → Contains (x ∷ []) y → x ≡ y
only_one x y m = elim (Contains-push_cases [] x y m) [ inl none ↦ absurd (let low = none.1 in omega arith) | inr same ↦ same ]

-- ---- tests

and_both : (a b : Bool) → (a && b) ≡ true → (a ≡ true) × (b ≡ true)
and_both true b h = (refl, h)
and_both false b h = absurd (let no : false ≡ true = h in cc)

same_router : (q r : RouterId) → (q.0 == r.0) ≡ true → q ≡ r
same_router q r sure = let e = eqb-true q.0 r.0 sure in λ i. record { 0 = e i }

-- ---- words of a kind

pub fault_weaker : (P Q : List ℕ → Type 0) (f : WordFault) → ((text : List ℕ) → P text → Q text) → IsFaultOfEditWords P f → IsFaultOfEditWords Q f
fault_weaker P Q (fault.Word text) k is = k (string_bytes text) is
fault_weaker P Q fault.Memory k is = is

-- the first, after words that name these
pub first_among : (A : List Advertisement) (single : List failure.AreaFailure) (kind : WordKind) (words : List (String Global)) (i : ℕ) (x : String Global) (changes : List Change)
    → i < length words → x ≡ get_or words i x → AllZip (IsWordFor A single kind) (take i words) changes → (text : List ℕ) → IsUnknownHere A single kind x text
    → IsFirstUnknownAmong A single kind words text
first_among A single kind words i x changes within is named text here = record {
  before = take i words;
  word = x;
  after = drop (suc i) words;
  words_are =
      sym (take-append-drop i words) ∙ ap (λ (rest : List (String Global)). take i words ++ rest) (drop-cons words i x within)
      ∙ ap (λ (y : String Global). take i words ++ y ∷ drop (suc i) words) (sym is);
  changes = changes;
  named = named;
  unnamed = here;
}

-- ---- costs of an area

module _ (word : List ℕ) (c : Change) where
  pub of_one : (A : List Advertisement) (a : Advertisement) → Contains A a → IsCostWord (a ∷ []) word c → IsCostWord A word c
  of_one A a there is = (is.0, is.1, subst (Contains A) (only_one a (router_lsa is.0 is.1) is.2) there, is.3)

  pub in_one : (A : List Advertisement) → IsCostWord A word c → (a : Advertisement) × Contains A a × IsCostWord (a ∷ []) word c
  in_one A is = (router_lsa is.0 is.1, is.2, (is.0, is.1, Contains-push [] (router_lsa is.0 is.1), is.3))

  pub to_router : (r : RouterId) (links : List link.Link) → IsCostWordOf r links word c → IsCostWord (router_lsa r links ∷ []) word c
  to_router r links of = (r, links, Contains-push [] (router_lsa r links), of)

  pub of_router : (r : RouterId) (links : List link.Link) → IsCostWord (router_lsa r links ∷ []) word c → IsCostWordOf r links word c
  of_router r links is =
      let same : router_lsa r links ≡ router_lsa is.0 is.1 = only_one (router_lsa r links) (router_lsa is.0 is.1) is.2 in
      let routers : is.0 ≡ r = cc in
      let all : is.1 ≡ links = cc in
      subst (λ (ls : List link.Link). IsCostWordOf r ls word c) all (subst (λ (x : RouterId). IsCostWordOf x is.1 word c) routers is.3)

  pub of_network : (n : ℕ) (r : RouterId) (mask : ℕ) (attached : List RouterId) → IsCostWord (network_lsa n r mask attached ∷ []) word c → ⊥
  of_network n r mask attached is =
      let same : network_lsa n r mask attached ≡ router_lsa is.0 is.1 = only_one (network_lsa n r mask attached) (router_lsa is.0 is.1) is.2 in
      cc

  pub cost_found : (items listing : List (List ℕ)) (lsa : List ℕ) → items ≡ listing → Contains items lsa → IsCostWord (advertisement_of lsa ∷ []) word c
      → IsCostWord (advertisements_of listing) word c
  unfolding advertisements_of
  cost_found items listing lsa same there is =
      of_one (map advertisement_of listing) (advertisement_of lsa) (member_to_map advertisement_of listing lsa (subst (λ (l : List (List ℕ)). Contains l lsa) same there)) is

  pub cost_in_none : (items listing : List (List ℕ)) → items ≡ listing → ((lsa : List ℕ) → Contains items lsa → IsCostWord (advertisement_of lsa ∷ []) word c → ⊥)
      → IsCostWord (advertisements_of listing) word c → ⊥
  unfolding advertisements_of
  cost_in_none items listing same none is =
      let one = in_one (map advertisement_of listing) is in
      let m = member_of_map advertisement_of listing one.0 one.1 in
      none m.0 (subst (λ (l : List (List ℕ)). Contains l m.0) (sym same) m.1) (subst (λ (a : Advertisement). IsCostWord (a ∷ []) word c) (sym m.2) one.2)

  -- one link more
  pub of_more : (r : RouterId) (links : List link.Link) (l : link.Link) → (IsCostWordOf r links word c → ⊥) → (IsCostWordAt r l word c → ⊥)
      → IsCostWordOf r (links ++ l ∷ []) word c → ⊥
  of_more r links l before here is =
      elim (Contains-push_cases links l is.0 is.1) [
        | inl old ↦ before (is.0, old, is.2)
        | inr same ↦ here (subst (λ (x : link.Link). IsCostWordAt r x word c) (sym same) is.2)
      ]

-- ---- costs of a link

pub no_pair : (r : RouterId) (l : link.Link) (word : List ℕ) (q : RouterId) (n : ℕ) → (l.kind ≡ kind.PointToPoint → ⊥) → IsCostWordAt r l word (change.CostTo r q n) → ⊥
no_pair r l word q n not at = go l.kind refl
  where
    go : (k : LinkKind) → l.kind ≡ k → ⊥
    go kind.PointToPoint is = not is
    go kind.Transit is = (let no : false ≡ true = rw is at at.link_is in cc)
    go kind.Stub is = (let no : false ≡ true = rw is at at.link_is in cc)
    go kind.Virtual is = (let no : false ≡ true = rw is at at.link_is in cc)
