-- What a function writes behind what stands in a lent list.
use Rattle.std.specs.Prelude.{◌≡◌, refl, List, [], ◌∷◌, ◌++◌, ℕ, suc, ◌+◌, ◌≤◌, length, drop, set}
use Rattle.std.proofs.Common.{sym, ap, subst, ◌∙◌, zero-add, arith, length-append}
use Rattle.std.proofs.lemmas.List.Edits.{sets, sets-eq}

-- The entries from pos on are those of l, up to next, and no other entry has changed.
pub record Wrote (old new : List ℕ) (pos next : ℕ) (l : List ℕ) : Type 0 where
  pub ends : next ≡ pos + length l
  pub entries : new ≡ sets old pos l

-- A list written behind another.
sets_append : (old : List ℕ) (pos : ℕ) (a b : List ℕ) → sets (sets old pos a) (pos + length a) b ≡ sets old pos (a ++ b)
sets_append old pos [] b = let e : pos + 0 ≡ pos = omega arith in ap (λ (p : ℕ). sets old p b) e
sets_append old pos (x ∷ a) b =
    let e : pos + suc (length a) ≡ suc pos + length a = omega arith in
    ap (λ (p : ℕ). sets (sets (set old pos x) (suc pos) a) p b) e ∙ sets_append (set old pos x) (suc pos) a b

pub wrote_none : (old : List ℕ) (pos : ℕ) → Wrote old old pos pos []
wrote_none old pos = record { ends = omega arith; entries = refl }

pub wrote_one : (old : List ℕ) (pos e : ℕ) → Wrote old (set old pos e) pos (pos + 1) (e ∷ [])
wrote_one old pos e = record { ends = omega arith; entries = refl }

pub wrote_both : {a b c : List ℕ} {p q r : ℕ} {l m : List ℕ} → Wrote a b p q l → Wrote b c q r m → Wrote a c p r (l ++ m)
wrote_both {a} {b} {c} {p} {q} {r} {l} {m} x y = record {
  ends = omega (arith, x.ends, y.ends, length-append l m);
  entries = y.entries ∙ ap (λ (e : List ℕ). sets e q m) x.entries ∙ ap (λ (i : ℕ). sets (sets a p l) i m) x.ends ∙ sets_append a p l m;
}

pub wrote_as : {a b : List ℕ} {p q : ℕ} {l m : List ℕ} → Wrote a b p q l → l ≡ m → Wrote a b p q m
wrote_as {a} {b} {p} {q} w e = subst (λ (x : List ℕ). Wrote a b p q x) e w

-- A list set from the first entry on: the list, then the entries behind it as they were.
sets_front : (old l : List ℕ) → length l ≤ length old → sets old 0 l ≡ l ++ drop (length l) old
sets_front old l fits =
    let within : 0 + length l ≤ length old = omega arith in
    sets-eq l old 0 within ∙ ap (λ (k : ℕ). l ++ drop k old) (zero-add (length l))

pub wrote_front : {old new l : List ℕ} {r : ℕ} → Wrote old new 0 r l → length l ≤ length old → new ≡ l ++ drop (length l) old
wrote_front {old} {new} {l} w fits = w.entries ∙ sets_front old l fits

pub front_wrote : {old new l : List ℕ} → new ≡ l ++ drop (length l) old → length l ≤ length old → Wrote old new 0 (length l) l
front_wrote {old} {new} {l} e fits = record { ends = omega arith; entries = e ∙ sym (sets_front old l fits) }
