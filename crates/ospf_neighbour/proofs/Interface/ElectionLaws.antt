-- The laws of the election.
use Rattle.std.proofs.Common.{◌≡◌, ◌≢◌, ◌↔◌, ◌<◌, List, Bool, true, false, length, get_or, map, refl, sym, ap, ◌∙◌, subst, inl, inr, arith}
use Rattle.std.specs.List.{Contains}
use Rattle.std.specs.Bool.{MatchBool}
use Rattle.std.proofs.lemmas.List.{get_or-map, length-map}
use Rattle.std.proofs.lemmas.Bool.{cases_order}
use Rattle.std.proofs.lemmas.Bool.Decides.{eqb_tells}
use Rattle.ospf_base.specs.declared.ids.RouterId.{RouterId}
use Rattle.ospf_base.specs.declared.ids.Addr.{Addr}
use Rattle.ospf_neighbour.specs.declared.iface.candidate.Candidate.{Candidate}
use Rattle.ospf_neighbour.specs.declared.iface.candidate.Elected.{Elected}
use Rattle.ospf_neighbour.specs.Interface.Election.{IsBestIn, HasNoneIn, IsBackup, IsDr, IsElectionRound, AreDistinct, declaring, changes_role, DeclaresDr, DeclaresBackup, MayBeBackup}
use Rattle.ospf_neighbour.specs.Interface.Laws.{OrderDoesNotMatter, OneResult}
use Rattle.ospf_neighbour.proofs.Interface.Members.{image_member, member_image, one_member}

abbrev Same : List Candidate → List Candidate → Type 0
Same xs ys = (c : Candidate) → Contains xs c ↔ Contains ys c

module _ (xs ys : List Candidate) (same : Same xs ys) where
  best_moves : (Set : Candidate → Type 0) (c : Candidate) → IsBestIn Set xs c → IsBestIn Set ys c
  best_moves Set c h = record { member = (same c).0 h.member; belongs = h.belongs; max_seq = λ d m s. h.max_seq d ((same d).1 m) s }

  none_moves : (Set : Candidate → Type 0) → HasNoneIn Set xs → HasNoneIn Set ys
  none_moves Set h = record { none = λ d m s. h.none d ((same d).1 m) s }

  backup_moves : (a : Addr) → IsBackup xs a → IsBackup ys a
  backup_moves a (IsBackup.Declared c h e) = IsBackup.Declared c (best_moves DeclaresBackup c h) e
  backup_moves a (IsBackup.Ranked c n h e) = IsBackup.Ranked c (none_moves DeclaresBackup n) (best_moves MayBeBackup c h) e
  backup_moves a (IsBackup.Nobody n e) = IsBackup.Nobody (none_moves MayBeBackup n) e

  dr_moves : (b a : Addr) → IsDr xs b a → IsDr ys b a
  dr_moves b a (IsDr.Declared c h e) = IsDr.Declared c (best_moves DeclaresDr c h) e
  dr_moves b a (IsDr.Promoted n e) = IsDr.Promoted (none_moves DeclaresDr n) e

  round_moves : (e : Elected) → IsElectionRound xs e → IsElectionRound ys e
  round_moves e h = record { backup = backup_moves e.backup h.backup; dr = dr_moves e.backup e.dr h.dr }

  image_moves : (f : Candidate → Candidate) → Same (map f xs) (map f ys)
  image_moves f c = (
    λ m. let x = image_member f xs c m in subst (Contains (map f ys)) x.2 (member_image f ys x.0 ((same x.0).0 x.1)),
    λ m. let x = image_member f ys c m in subst (Contains (map f xs)) x.2 (member_image f xs x.0 ((same x.0).1 x.1)),
  )

again_moves : (xs ys : List Candidate) (f : Candidate → Candidate) (first e : Elected) → Same xs ys → (b : Bool)
    → MatchBool b (IsElectionRound (map f xs) e) (e ≡ first) → MatchBool b (IsElectionRound (map f ys) e) (e ≡ first)
again_moves xs ys f first e same true h = round_moves (map f xs) (map f ys) (image_moves xs ys same f) e h
again_moves xs ys f first e same false h = h

pub order_does_not_matter : OrderDoesNotMatter
order_does_not_matter xs ys me e same h =
    record {
      own = h.own;
      member = (same h.own).0 h.member;
      is_me = h.is_me;
      first = h.first;
      round = round_moves xs ys same h.first h.round;
      again = again_moves xs ys (declaring me h.first) h.first e same (changes_role h.own h.first) h.again;
    }

one_candidate : (xs : List Candidate) (a b : Candidate) → AreDistinct xs → Contains xs a → Contains xs b → a.id ≡ b.id → a ≡ b
one_candidate xs a b distinct m n same = one_member (λ a b. a.id ≢ b.id) xs a b distinct m n (λ ne. ne same) (λ ne. ne (sym same))

module _ (xs : List Candidate) (distinct : AreDistinct xs) where
  one_best : (Set : Candidate → Type 0) (a b : Candidate) → IsBestIn Set xs a → IsBestIn Set xs b → a ≡ b
  one_best Set a b h k =
      elim (cases_order a.priority b.priority) [
        | inl p ↦ elim (cases_order a.id.0 b.id.0) [
          | inl i ↦ one_candidate xs a b distinct h.member k.member (λ j. record { 0 = i j })
          | inr s ↦ elim s [ inl lt ↦ absurd (h.max_seq b k.member k.belongs (inr (sym p, lt))) | inr gt ↦ absurd (k.max_seq a h.member h.belongs (inr (p, gt))) ]
        ]
        | inr s ↦ elim s [ inl lt ↦ absurd (h.max_seq b k.member k.belongs (inl lt)) | inr gt ↦ absurd (k.max_seq a h.member h.belongs (inl gt)) ]
      ]

  same_address : (Set : Candidate → Type 0) (c d : Candidate) (a b : Addr) → IsBestIn Set xs c → IsBestIn Set xs d → c.address ≡ a → d.address ≡ b → a ≡ b
  same_address Set c d a b h k e f = sym e ∙ ap (λ (x : Candidate). x.address) (one_best Set c d h k) ∙ f

  one_backup : (a b : Addr) → IsBackup xs a → IsBackup xs b → a ≡ b
  one_backup a b (IsBackup.Declared c h e) (IsBackup.Declared d k f) = same_address DeclaresBackup c d a b h k e f
  one_backup a b (IsBackup.Declared c h e) (IsBackup.Ranked d n k f) = absurd (n.none c h.member h.belongs)
  one_backup a b (IsBackup.Declared c h e) (IsBackup.Nobody n f) = absurd (n.none c h.member (h.belongs.0, h.belongs.1))
  one_backup a b (IsBackup.Ranked c m h e) (IsBackup.Declared d k f) = absurd (m.none d k.member k.belongs)
  one_backup a b (IsBackup.Ranked c m h e) (IsBackup.Ranked d n k f) = same_address MayBeBackup c d a b h k e f
  one_backup a b (IsBackup.Ranked c m h e) (IsBackup.Nobody n f) = absurd (n.none c h.member h.belongs)
  one_backup a b (IsBackup.Nobody m e) (IsBackup.Declared d k f) = absurd (m.none d k.member (k.belongs.0, k.belongs.1))
  one_backup a b (IsBackup.Nobody m e) (IsBackup.Ranked d n k f) = absurd (m.none d k.member k.belongs)
  one_backup a b (IsBackup.Nobody m e) (IsBackup.Nobody n f) = e ∙ sym f

  one_dr : (p q a b : Addr) → p ≡ q → IsDr xs p a → IsDr xs q b → a ≡ b
  one_dr p q a b same (IsDr.Declared c h e) (IsDr.Declared d k f) = same_address DeclaresDr c d a b h k e f
  one_dr p q a b same (IsDr.Declared c h e) (IsDr.Promoted n f) = absurd (n.none c h.member h.belongs)
  one_dr p q a b same (IsDr.Promoted m e) (IsDr.Declared d k f) = absurd (m.none d k.member k.belongs)
  one_dr p q a b same (IsDr.Promoted m e) (IsDr.Promoted n f) = e ∙ same ∙ sym f

  one_round : (e f : Elected) → IsElectionRound xs e → IsElectionRound xs f → e ≡ f
  one_round e f h k =
      let b = one_backup e.backup f.backup h.backup k.backup in
      let d = one_dr e.backup f.backup e.dr f.dr b h.dr k.dr in
      λ i. record { dr = d i; backup = b i }

keeps_id : (me : RouterId) (e : Elected) (c : Candidate) → (declaring me e c).id ≡ c.id
keeps_id me e c = elim (eqb_tells c.id.0 me.0) [ inl w ↦ (rw w.0 refl) | inr w ↦ (rw w.0 refl) ]

still_distinct : (xs : List Candidate) (me : RouterId) (e : Elected) → AreDistinct xs → AreDistinct (map (declaring me e) xs)
still_distinct xs me e distinct i j d lt long =
    let f = declaring me e in
    let short : j < length xs = rw length-map at long in
    let at_i : get_or (map f xs) i d ≡ f (get_or xs i d) = get_or-map f xs i d d (omega arith) in
    let at_j : get_or (map f xs) j d ≡ f (get_or xs j d) = get_or-map f xs j d d short in
    λ same. distinct i j d lt short
    (sym (keeps_id me e (get_or xs i d)) ∙ (ap (λ (c : Candidate). c.id) (sym at_i) ∙ same ∙ ap (λ (c : Candidate). c.id) at_j) ∙ keeps_id me e (get_or xs j d))

one_again : (xs : List Candidate) (me : RouterId) (first e f : Elected) → AreDistinct xs → (b : Bool)
    → MatchBool b (IsElectionRound (map (declaring me first) xs) e) (e ≡ first) → MatchBool b (IsElectionRound (map (declaring me first) xs) f) (f ≡ first) → e ≡ f
one_again xs me first e f distinct true h k = one_round (map (declaring me first) xs) (still_distinct xs me first distinct) e f h k
one_again xs me first e f distinct false h k = h ∙ sym k

pub one_result : OneResult
one_result xs me e f distinct h k =
    let own = one_candidate xs k.own h.own distinct k.member h.member (k.is_me ∙ sym h.is_me) in
    let first = one_round xs distinct k.first h.first k.round h.round in
    let again : MatchBool (changes_role h.own h.first) (IsElectionRound (map (declaring me h.first) xs) f) (f ≡ h.first) =
    subst (λ c. MatchBool (changes_role c h.first) (IsElectionRound (map (declaring me h.first) xs) f) (f ≡ h.first)) own
    (subst (λ x. MatchBool (changes_role k.own x) (IsElectionRound (map (declaring me x) xs) f) (f ≡ x)) first k.again) in
    one_again xs me h.first e f distinct (changes_role h.own h.first) h.again again
