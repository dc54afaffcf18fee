-- The least fault of several.
use Rattle.std.proofs.Common.{◌≡◌, ◌≤◌, ◌⊎◌, zero, suc, ℤ, pos, negsuc, Option, Some, None, Result, Ok, Err, nat_lt, inl, inr, sym, ◌∙◌, arith}
use Rattle.std.proofs.lemmas.Bool.{cases_Bool, cases_lt}
use Rattle.std.proofs.lemmas.Bool.Decides.{nat_tests}
use Rattle.std.specs.Result.{result_err}
use Rattle.toml.specs.Data.{Data, as_integer}
use Rattle.ospf_config.specs.declared.fault.ConfigFault.{ConfigFault}
use Rattle.ospf_config.specs.declared.fault.ConfigFault.TheVariants as fault
use Rattle.ospf_config.specs.Fault.{config_fault_number, earlier_of, IsLeastFault, IsLeastIfAny, IsFaultIfAny}
use Rattle.ospf_config.specs.Reading.{ReadsValue, Required, Optional, IsNumberIn}
use Rattle.ospf_config.specs.Keys.{ReadsCostValue, ReadsCostAt}

-- what is read is a value or one fault
pub record IsSingle {T : Type 0} (Reads : Result T ConfigFault → Type 0) : Type 0 where
  pub one : (f g : ConfigFault) → Reads (Err f) → Reads (Err g) → f ≡ g
  pub none : (x : T) (f : ConfigFault) → Reads (Ok x) → Reads (Err f) → ⊥

abbrev error : (T : Type 0) → ConfigFault → Result T ConfigFault
error T f = Err f

module _ {T : Type 0} where
  same_error : (f g h : ConfigFault) → error T f ≡ error T h → error T g ≡ error T h → f ≡ g
  same_error f g h a b = cc

  ok_no_error : (x : T) (f : ConfigFault) → Ok x ≡ Err f → ⊥
  ok_no_error x f e = cc

module _ {D T : Type 0} (Means : D → T → Type 0) where
  value_single : (v : Option D) → IsSingle (λ r. ReadsValue Means v r)
  value_single None = record {
    one = λ f g a b. same_error f g fault.Type a b;
    none = λ x f a b. ok_no_error x fault.Type a;
  }
  value_single (Some d) = record {
    one = λ f g a b. a.0 ∙ sym b.0;
    none = λ x f a b. b.1 x a;
  }

  pub required_single : (typed : Data → Option D) (o : Option Data) → IsSingle (λ r. Required typed Means o r)
  required_single typed None = record {
    one = λ f g a b. same_error f g fault.Missing a b;
    none = λ x f a b. ok_no_error x fault.Missing a;
  }
  required_single typed (Some d) = value_single (typed d)

  pub optional_single : (typed : Data → Option D) (default : T) (o : Option Data) → IsSingle (λ r. Optional typed Means default o r)
  optional_single typed default None = record {
    one = λ f g a b. absurd (ok_no_error default f (sym a));
    none = λ x f a b. ok_no_error default f (sym b);
  }
  optional_single typed default (Some d) = value_single (typed d)

at_value : (v : Option ℤ) → IsSingle (λ r. ReadsCostValue v r)
at_value None = value_single (IsNumberIn 1 65535) None
at_value (Some (pos zero)) = record {
  one = λ f g a b. same_error f g fault.ZeroCost a b;
  none = λ x f a b. ok_no_error x fault.ZeroCost a;
}
at_value (Some (pos (suc n))) = value_single (IsNumberIn 1 65535) (Some (pos (suc n)))
at_value (Some (negsuc n)) = value_single (IsNumberIn 1 65535) (Some (negsuc n))

pub cost_single : (o : Option Data) → IsSingle (λ r. ReadsCostAt o r)
cost_single None = record {
  one = λ f g a b. same_error f g fault.Missing a b;
  none = λ x f a b. ok_no_error x fault.Missing a;
}
cost_single (Some d) = at_value (as_integer d)

-- ---- the least

pub least_of : (Holds : ConfigFault → Type 0) (f : ConfigFault) → Holds f → ((g : ConfigFault) → Holds g → config_fault_number f ≤ config_fault_number g) → IsLeastFault Holds f
least_of Holds f holds least = record { broken = holds; first = λ g lt here. (let le = least g here in omega arith) }

pub least_number : (Holds : ConfigFault → Type 0) (f : ConfigFault) → IsLeastFault Holds f → (g : ConfigFault) → Holds g → config_fault_number f ≤ config_fault_number g
least_number Holds f is g here = elim (cases_lt (config_fault_number g) (config_fault_number f)) [ inl lt ↦ absurd (is.first g lt here) | inr le ↦ le ]

module _ {T : Type 0} (Reads : Result T ConfigFault → Type 0) (single : IsSingle Reads) where
  -- of one key
  pub least_error : (r : Result T ConfigFault) (o : Option ConfigFault) → Reads r → o ≡ result_err r → IsLeastIfAny (λ f. Reads (Err f)) o
  least_error (Ok x) o reads e = rw e (λ f h. single.none x f reads h)
  least_error (Err f) o reads e = rw e (least_of _ f reads (λ g h. (let same : f ≡ g = single.one f g reads h in rw same (omega arith))))

  pub least_fault : (o : Option ConfigFault) → IsFaultIfAny Reads o → IsLeastIfAny (λ f. Reads (Err f)) o
  least_fault None h = h
  least_fault (Some f) h = least_of _ f h (λ g here. (let same : f ≡ g = single.one f g h here in rw same (omega arith)))

-- of two
module _ (P Q : ConfigFault → Type 0) where
  pub least_both : (a b : Option ConfigFault) → IsLeastIfAny P a → IsLeastIfAny Q b → IsLeastIfAny (λ f. P f ⊎ Q f) (earlier_of a b)
  least_both None None p q = λ f h. elim h [ inl x ↦ p f x | inr y ↦ q f y ]
  least_both None (Some g) p q = least_of _ g (inr q.broken) (λ f h. elim h [ inl x ↦ absurd (p f x) | inr y ↦ least_number _ g q f y ])
  least_both (Some f) None p q = least_of _ f (inl p.broken) (λ g h. elim h [ inl x ↦ least_number _ f p g x | inr y ↦ absurd (q g y) ])
  least_both (Some f) (Some g) p q =
      elim (cases_Bool (nat_lt (config_fault_number g) (config_fault_number f))) [
        | inl less ↦ rw less (least_of _ g (inr q.broken) (λ h some. elim some [ inl x ↦ (let le = least_number _ f p h x in grind (arith, nat_tests, less, le)) | inr y ↦ least_number _ g q h y ]))
        | inr other ↦ rw other (least_of _ f (inl p.broken) (λ h some. elim some [ inl x ↦ least_number _ f p h x | inr y ↦ (let le = least_number _ g q h y in grind (arith, nat_tests, other, le)) ]))
      ]

  -- of the same
  pub least_same : (a : Option ConfigFault) → ((f : ConfigFault) → P f → Q f) → ((f : ConfigFault) → Q f → P f) → IsLeastIfAny P a → IsLeastIfAny Q a
  least_same None to from h = λ f q. h f (from f q)
  least_same (Some f) to from h = least_of _ f (to f h.broken) (λ g q. least_number _ f h g (from g q))
