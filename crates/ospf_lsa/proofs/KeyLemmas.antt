-- The keys that stand beside the LSAs of a listing.
use Rattle.std.proofs.Common.{◌≡◌, ◌<◌, ◌++◌, ◌∷◌, ℕ, List, Result, Ok, Err, OnOk, OnErr, drop, get_or, length, map, set, take, ap, sym, ◌∙◌, [], arith}
use Rattle.std.specs.List.{insert}
use Rattle.std.proofs.Math.Seq.{map-set_same}
use Rattle.std.proofs.lemmas.List.{drop-map, drop_all, get_or-map, take_all, length-map, map-append, take-map}
use Rattle.ospf_base.specs.declared.ids.LsaKey.{LsaKey}
use Rattle.ospf_lsa.specs.Lsa.{key_of}
use Rattle.ospf_lsa.specs.Listing.{AreKeysOf}

-- what follows where memory was granted, where it was not, and so in either case
pub ok_more : {E : Type 0} (r : Result (Unit {0}) E) (P Q : Type 0) → (P → Q) → OnOk r P → OnOk r Q
ok_more (Ok x) P Q more h = more h
ok_more (Err e) P Q more h = h

pub err_more : {E : Type 0} (r : Result (Unit {0}) E) (P Q : Type 0) → (P → Q) → OnErr r P → OnErr r Q
err_more (Ok x) P Q more h = h
err_more (Err e) P Q more h = more h

pub either : {E : Type 0} (r : Result (Unit {0}) E) (Q : Type 0) → OnOk r Q → OnErr r Q → Q
either (Ok x) Q ok err = ok
either (Err e) Q ok err = err

-- what is put in behind all
pub insert_last : (lsas : List (List ℕ)) (n : ℕ) (l : List ℕ) → n ≡ length lsas → insert lsas n l ≡ lsas ++ l ∷ []
insert_last lsas n l is =
    ap (λ ls. ls ++ l ∷ drop n lsas) (take_all n lsas (omega arith)) ∙ ap (λ ls. lsas ++ l ∷ ls) (drop_all n lsas (omega arith))

insert_map : (lsas : List (List ℕ)) (at : ℕ) (l : List ℕ) → insert (map key_of lsas) at (key_of l) ≡ map key_of (insert lsas at l)
insert_map lsas at l =
    ap (λ ks. ks ++ key_of l ∷ drop at (map key_of lsas)) (take-map key_of at lsas) ∙ ap (λ ks. map key_of (take at lsas) ++ key_of l ∷ ks) (drop-map key_of at lsas)
    ∙ sym (map-append key_of (take at lsas) (l ∷ drop at lsas))

module _ (keys : List LsaKey) (lsas : List (List ℕ)) (are : AreKeysOf keys lsas) where
  -- the key at a place is that of the LSA there
  pub key_at : (m : ℕ) (k : LsaKey) (x : List ℕ) → m < length lsas → get_or keys m k ≡ key_of (get_or lsas m x)
  key_at m k x lt = ap (λ ks. get_or ks m k) are ∙ get_or-map key_of lsas m x k lt

  pub keys_inserted : (at : ℕ) (l : List ℕ) → AreKeysOf (insert keys at (key_of l)) (insert lsas at l)
  keys_inserted at l = ap (λ ks. insert ks at (key_of l)) are ∙ insert_map lsas at l

  -- an LSA of the same key is put in the place of one
  pub keys_set : (at : ℕ) (l : List ℕ) → key_of (get_or lsas at l) ≡ key_of l → AreKeysOf keys (set lsas at l)
  keys_set at l same = are ∙ sym (map-set_same key_of lsas at l l (sym same))
