-- What a text says, where reading it comes to one result: a value, or a first fault.
use Rattle.std.proofs.Common.{◌≡◌, ◌⊎◌, inl, inr, ℕ, Bool, true, false, List, Result, Ok, Err, refl, sym, ◌∙◌, true≢false}
use Rattle.std.specs.Prelude.{IsUtf8}
use Rattle.std.specs.Str.{is_utf8}
use Rattle.std.proofs.lemmas.Str.{IsUtf8-from_is_utf8, is_utf8-from_IsUtf8}

-- a text of UTF-8 says, or has as its fault, what reading it comes to, and each other text has one fault
pub record IsRead {T F : Type 0} (bytes : List ℕ) (whole : Result T F) (other : F) (Says : T → Type 0) (Has : F → Type 0) : Type 0 where
  pub utf8 : (value : T) → Says value → IsUtf8 bytes
  pub read : (value : T) → Says value → whole ≡ Ok value
  pub says : (value : T) → IsUtf8 bytes → whole ≡ Ok value → Says value
  pub met : (fault : F) → Has fault → (IsUtf8 bytes × (whole ≡ Err fault)) ⊎ ((¬ (IsUtf8 bytes)) × (fault ≡ other))
  pub has : (fault : F) → IsUtf8 bytes → whole ≡ Err fault → Has fault
  pub no_text : ¬ (IsUtf8 bytes) → Has other

module _ {T F : Type 0} {bytes : List ℕ} {whole : Result T F} {other : F} {Says : T → Type 0} {Has : F → Type 0} (are : IsRead bytes whole other Says Has) where
  -- ---- the laws: there is one value at most, one fault at most, not both, and always one

  pub one_value : (first second : T) → Says first → Says second → first ≡ second
  one_value first second one two =
      let a = are.read first one in
      let b = are.read second two in
      cc

  pub never_both : (fault : F) (value : T) → Has fault → Says value → ⊥
  never_both fault value has says = by (are.met fault has)
    where
      by : (IsUtf8 bytes × (whole ≡ Err fault)) ⊎ ((¬ (IsUtf8 bytes)) × (fault ≡ other)) → ⊥
      by (inl met) =
          let a = are.read value says in
          let b = met.1 in
          absurd cc
      by (inr none) = none.0 (are.utf8 value says)

  pub one_fault : (first second : F) → Has first → Has second → first ≡ second
  one_fault first second one two = by (are.met first one) (are.met second two)
    where
      by : (IsUtf8 bytes × (whole ≡ Err first)) ⊎ ((¬ (IsUtf8 bytes)) × (first ≡ other)) → (IsUtf8 bytes × (whole ≡ Err second)) ⊎ ((¬ (IsUtf8 bytes)) × (second ≡ other)) → first ≡ second
      by (inl a) (inl b) =
          let p = a.1 in
          let q = b.1 in
          cc
      by (inl a) (inr b) = absurd (b.0 a.0)
      by (inr a) (inl b) = absurd (a.0 b.0)
      by (inr a) (inr b) = a.1 ∙ sym b.1

  pub value_or_fault : ((value : T) × Says value) ⊎ ((fault : F) × Has fault)
  value_or_fault = by_utf8 (is_utf8 bytes) refl
    where
      by_read : (read : Result T F) → whole ≡ read → IsUtf8 bytes → ((value : T) × Says value) ⊎ ((fault : F) × Has fault)
      by_read (Ok value) e utf8 = inl (value, are.says value utf8 e)
      by_read (Err fault) e utf8 = inr (fault, are.has fault utf8 e)

      by_utf8 : (test : Bool) → is_utf8 bytes ≡ test → ((value : T) × Says value) ⊎ ((fault : F) × Has fault)
      by_utf8 true e = by_read whole refl (IsUtf8-from_is_utf8 bytes e)
      by_utf8 false e = inr (other, are.no_text (λ utf8. true≢false (sym (is_utf8-from_IsUtf8 bytes utf8) ∙ e)))

  -- ---- where reading has stopped or ended

  pub no_stop : (fault : F) (value : T) → whole ≡ Err fault → Says value → ⊥
  no_stop fault value stop says = let read = are.read value says in absurd cc

  pub stop_is_first : (fault first : F) → IsUtf8 bytes → whole ≡ Err fault → Has first → fault ≡ first
  stop_is_first fault first utf8 stop has = one_fault fault first (are.has fault utf8 stop) has

  pub no_fault : (value : T) (first : F) → IsUtf8 bytes → whole ≡ Ok value → Has first → ⊥
  no_fault value first utf8 end has = never_both first value has (are.says value utf8 end)

  pub end_is_value : (value second : T) → whole ≡ Ok value → Says second → value ≡ second
  end_is_value value second end says = let read = are.read second says in cc
