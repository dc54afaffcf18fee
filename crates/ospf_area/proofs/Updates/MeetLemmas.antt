-- What an LSA of an Update, and a header, leave as they are.
use Rattle.std.proofs.Common.{◌≡◌, ◌⊎◌, ◌++◌, inl, inr, if◌then◌else◌, ℕ, Bool, true, false, Option, None, Some, Result, Ok, Err, OnOk, List, [], ◌∷◌, refl, sym, subst, ap, ◌∙◌}
use Rattle.ospf_base.specs.declared.ids.Instance.{Instance}
use Rattle.ospf_base.specs.declared.ids.LsaKey.{LsaKey}
use Rattle.ospf_exchange.proofs.Words.{copy_in_database}
use Rattle.ospf_flood.proofs.Words.{case_of_newer, case_of_same}
use Rattle.ospf_flood.specs.declared.acknowledgement.Acknowledgement.{Acknowledgement}
use Rattle.ospf_flood.specs.declared.acknowledgement.Acknowledgement.TheVariants as answer
use Rattle.ospf_flood.specs.declared.acknowledgement.AcknowledgementCase.{AcknowledgementCase}
use Rattle.ospf_flood.specs.declared.acknowledgement.AcknowledgementCase.TheVariants.{Expired}
use Rattle.ospf_flood.specs.declared.rule.LsaRule.{LsaRule}
use Rattle.ospf_flood.specs.declared.rule.LsaRule.TheVariants.{AcknowledgesExpired, TooSoon, Installs, BadRequest, Duplicate, Stale}
use Rattle.ospf_lsa.specs.Header.{header_of, key_of_header}
use Rattle.ospf_lsa.specs.Lsa.{key_of, instance_of}
use Rattle.ospf_lsa.specs.declared.header.LsaHeader.{LsaHeader}
use Rattle.ospf_area.specs.Changes.{changed_at}
use Rattle.ospf_area.specs.Flooding.{flooded_back, released}
use Rattle.ospf_area.specs.Numbers.{is_self_originated}
use Rattle.ospf_area.specs.Outputs.{OutputsValue}
use Rattle.ospf_area.specs.Standing.{acknowledging, answer_at}
use Rattle.ospf_area.specs.State.{AreaValue, neighbour_at}
use Rattle.ospf_area.specs.declared.changes.AdjacencyChange.TheVariants.{Acknowledges}
use Rattle.ospf_area.specs.declared.flooding.PacketSource.{PacketSource}
use Rattle.ospf_area.specs.Updates.Laws.{is_installed}
use Rattle.ospf_area.specs.Updates.Meets.{MeetsLsa, MeetsRule, Stores, duplicated, header_met, heard_by, named_by, replied, reply_to, rule_met}
use Rattle.ospf_area.proofs.Updates.Words.{taken_off}
use Rattle.ospf_area.proofs.Updates.CopyLemmas.{KeepsAll}
use Rattle.ospf_area.proofs.Words.{is_awaited_of}

pub keeps_both : (s m t : AreaValue) → KeepsAll s m → KeepsAll m t → KeepsAll s t
keeps_both s m t one next = record { database = next.database ∙ one.database; numbers = λ k. next.numbers k ∙ one.numbers k }

pub keeps_same : (s t : AreaValue) → t ≡ s → KeepsAll s t
keeps_same s t is = subst (KeepsAll s) (sym is) (record { database = refl; numbers = λ k. refl })

acknowledging_keeps : (a : Acknowledgement) (f : PacketSource) (h : LsaHeader) (s : AreaValue) → KeepsAll s (acknowledging a f h s)
acknowledging_keeps answer.None f h s = record { database = refl; numbers = λ k. refl }
acknowledging_keeps answer.Delayed f h s = record { database = refl; numbers = λ k. refl }
acknowledging_keeps answer.Direct f h s = record { database = refl; numbers = λ k. refl }

heard_keeps : (key : LsaKey) (s : AreaValue) → KeepsAll s (heard_by key s)
heard_keeps key s = by_test (is_self_originated s.router s.links key)
  where
    by_test : (b : Bool) → KeepsAll s (if b then record s { heard = s.heard ++ key ∷ [] } else s)
    by_test true = record { database = refl; numbers = λ k. refl }
    by_test false = record { database = refl; numbers = λ k. refl }

replied_keeps : (o : Option (List ℕ)) (f : PacketSource) (key : LsaKey) (s : AreaValue) → KeepsAll s (replied o f key s)
replied_keeps None f key s = record { database = refl; numbers = λ k. refl }
replied_keeps (Some lsa) f key s = record { database = refl; numbers = λ k. refl }

-- the LSA was stored, and then nothing more was done that the database and the numbers are read of
pub record IsStored (f : PacketSource) (lsa : List ℕ) (s t : AreaValue) : Type 0 where
  pub mid : AreaValue
  pub stores : Stores lsa (Some f) s mid
  pub keeps : KeepsAll mid t

abbrev on_newer : PacketSource → List ℕ → AreaValue → AreaValue → Acknowledgement
on_newer f lsa s m = answer_at (case_of_newer (flooded_back (key_of lsa) (header_of lsa) (Some f) (released (key_of lsa) s.links))) f m.links

abbrev on_same : PacketSource → List ℕ → AreaValue → Acknowledgement
on_same f lsa s = answer_at (case_of_same (is_awaited_of (instance_of lsa) (neighbour_at s.links f.link f.router))) f s.links

-- it was stored, or nothing is changed
pub met_cases : (f : PacketSource) (lsa : List ℕ) (s : AreaValue) (o o' : OutputsValue) (t : AreaValue) → MeetsLsa f lsa s o o' t
    → ((is_installed (rule_met s f lsa) ≡ true) × IsStored f lsa s t) ⊎ ((is_installed (rule_met s f lsa) ≡ false) × KeepsAll s t)
met_cases f lsa s o o' t meets = by_rule (rule_met s f lsa) meets
  where
    acknowledged : AreaValue
    acknowledged = record s { links = changed_at f (Acknowledges (instance_of lsa)) s.tick s.links }

    by_rule : (r : Option LsaRule) → MeetsRule r f lsa s o o' t → ((is_installed r ≡ true) × IsStored f lsa s t) ⊎ ((is_installed r ≡ false) × KeepsAll s t)
    by_rule None is = inr (refl, keeps_same s t is.state)
    by_rule (Some AcknowledgesExpired) is = inr (refl, subst (KeepsAll s) (sym is.state) (acknowledging_keeps (answer_at Expired f s.links) f (header_of lsa) s))
    by_rule (Some TooSoon) is = inr (refl, keeps_same s t is.state)
    by_rule (Some Installs) is =
        let told = acknowledging (on_newer f lsa s is.mid) f (header_of lsa) is.mid in
        inl (
          refl,
          record {
            mid = is.mid;
            stores = is.stores;
            keeps = subst (KeepsAll is.mid) (sym is.state)
                (keeps_both is.mid told (heard_by (key_of lsa) told) (acknowledging_keeps (on_newer f lsa s is.mid) f (header_of lsa) is.mid) (heard_keeps (key_of lsa) told));
          },
        )
    by_rule (Some BadRequest) is = inr (refl, subst (KeepsAll s) (sym is.state) (record { database = refl; numbers = λ k. refl }))
    by_rule (Some Duplicate) is =
        inr (
          refl,
          subst (KeepsAll s) (sym is.state)
              (keeps_both s acknowledged (acknowledging (on_same f lsa s) f (header_of lsa) acknowledged) (record { database = refl; numbers = λ k. refl })
              (acknowledging_keeps (on_same f lsa s) f (header_of lsa) acknowledged)),
        )
    by_rule (Some Stale) is = inr (refl, subst (KeepsAll s) (sym is.state) (replied_keeps (reply_to s (key_of lsa)) f (key_of lsa) s))

pub header_keeps : (f : PacketSource) (h : LsaHeader) (s : AreaValue) → KeepsAll s (header_met f h s)
header_keeps f h s = by_name (named_by h (copy_in_database s.database (key_of_header h)))
  where
    by_name : (o : Option Instance) → KeepsAll s (taken_off f o s)
    by_name None = record { database = refl; numbers = λ k. refl }
    by_name (Some i) = record { database = refl; numbers = λ k. refl }

-- the same instance, as it is met call by call
pub duplicated_by : {T E : Type 0} (r : Result T E) (f : PacketSource) (lsa : List ℕ) (s b t : AreaValue) (awaited : Bool) (how : AcknowledgementCase) (answer : Acknowledgement) (h : LsaHeader) (i : Instance)
    → i ≡ instance_of lsa → awaited ≡ is_awaited_of (instance_of lsa) (neighbour_at s.links f.link f.router) → how ≡ case_of_same awaited → answer ≡ answer_at how f s.links
    → b ≡ record s { links = changed_at f (Acknowledges i) s.tick s.links } → h ≡ header_of lsa → OnOk r (t ≡ acknowledging answer f h b) → OnOk r (t ≡ duplicated f lsa s)
duplicated_by (Err e) f lsa s b t awaited how answer h i of_i of_awaited of_how of_answer of_b of_h is = tt
duplicated_by (Ok x) f lsa s b t awaited how answer h i of_i of_awaited of_how of_answer of_b of_h is =
    let same : answer ≡ answer_at (case_of_same (is_awaited_of (instance_of lsa) (neighbour_at s.links f.link f.router))) f s.links =
    of_answer ∙ ap (λ (c : AcknowledgementCase). answer_at c f s.links) (of_how ∙ ap case_of_same of_awaited) in
    is ∙ ap (λ (a : Acknowledgement). acknowledging a f h b) same
    ∙ ap (λ (x : LsaHeader). acknowledging (on_same f lsa s) f x b) of_h
    ∙ ap (λ (x : AreaValue). acknowledging (on_same f lsa s) f (header_of lsa) x) of_b
    ∙ ap (λ (x : Instance). acknowledging (on_same f lsa s) f (header_of lsa) (record s { links = changed_at f (Acknowledges x) s.tick s.links })) of_i
