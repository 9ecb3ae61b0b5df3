-- What is read of the text is what the text spells there, and what it spells is read. Assumes nothing.
use mathlib.Core.Path.{◌≡◌, refl, sym, ap, ◌∙◌}
use mathlib.Core.Logic.{inl, inr, ⊎_elim}
use mathlib.Core.Bool.{Bool, true, false, cond, ◌&&◌}
use mathlib.Core.List.{List, [], ◌∷◌, ◌++◌, append_assoc, append-nil}
use Prim.Native.Nat.{ℕ, zero, suc, ◌+◌, ◌*◌, ◌-◌, ◌/◌, ◌%◌, ◌≤◌, ◌<◌}
use native.Mathlib.Nat.{add-zero, zero-add}
use native.Mathlib.Numerals.{add-one}
use native.Mathlib.Omega.{arith}
use lib.ListN.{length, get_or, drop}
use lib.Seq.{drop-cons, drop-drop, drop-append_seam, get_or-drop, append_snoc}
use lib.Dec.{ltb, leb, eqb}
use borrow.Author.Tests.{ltb-true, ltb-false, eqb-true, eqb-false, not-true, lt-ltb, le-ltb, le-leb, eq-eqb, ne_eqb}
use Rattle.std.specs.Prelude.{Some}
use Rattle.finite.specs.Bytes.{decimal}
use Rattle.finite.specs.Count.{In}
use Rattle.finite.proofs.Bytes.{decimal-one, decimal-more}
use Rattle.reader.specs.Number.{digit_of, digits, value, unpadded, number_of, number_at}
use Rattle.reader.specs.Form.{begins, skip_at, form_at}
use Rattle.lines.specs.List.{more, list_at}
use Rattle.text.specs.Spelling.{spelled_list}
use Rattle.reader.proofs.Numbers.{number_digits, number_small}
use Rattle.reader.proofs.Forms.{skip_found, form_parts}
use Rattle.lines.proofs.Lists.{space_in, list-end, list-more, list_ind}

-- ---- decimals

decimal_digit : (d : ℕ) → d < 10 → decimal d ≡ (48 + d) ∷ []
decimal_digit d h = decimal-one d h ∙ ap (λ (b : ℕ). b ∷ []) (omega arith)

-- one digit more behind a number that is not 0
decimal-next : (v d : ℕ) → 0 < v → d < 10 → decimal (v * 10 + d) ≡ decimal v ++ (48 + d) ∷ []
decimal-next v d h k =
    let front : (v * 10 + d) / 10 ≡ v = omega arith in
    let last : 48 + (v * 10 + d) % 10 ≡ 48 + d = omega arith in
    decimal-more (v * 10 + d) (omega arith) ∙ rw (front, last)

-- digits as bytes
abbrev shown : List ℕ → List ℕ
shown [] = []
shown (d ∷ ds) = (48 + d) ∷ shown ds

-- every digit is below 10
abbrev AllDigits : List ℕ → Type 0
AllDigits [] = Unit {0}
AllDigits (d ∷ ds) = (d < 10) × AllDigits ds

decimal-value : (v : ℕ) (ds : List ℕ) → 0 < v → AllDigits ds → decimal (value v ds) ≡ decimal v ++ shown ds
decimal-value v [] h k = sym (append-nil (decimal v))
decimal-value v (d ∷ ds) h k =
    decimal-value (v * 10 + d) ds (omega arith) k.1 ∙ ap (λ (l : List ℕ). l ++ shown ds) (decimal-next v d h k.0) ∙ append_snoc (decimal v) (48 + d) (shown ds)

-- unpadded digits are the decimal of their value
unpadded-decimal : (ds : List ℕ) → AllDigits ds → unpadded ds ≡ true → shown ds ≡ decimal (value 0 ds)
unpadded-decimal [] h u = absurd cc
unpadded-decimal (d ∷ []) h u = rw (zero-add d) (sym (decimal_digit d h.0))
unpadded-decimal (d ∷ e ∷ ds) h u =
    let lead = eqb-false d 0 (not-true (eqb d 0) u) in
    rw (zero-add d) (sym (decimal-value d (e ∷ ds) (omega (arith, lead)) h.1 ∙ ap (λ (l : List ℕ). l ++ shown (e ∷ ds)) (decimal_digit d h.0)))

-- ---- what is read is spelled

digit_back : (b : ℕ) → digit_of b < 10 → 48 + digit_of b ≡ b
digit_back b h = go (ltb b 48) (leb b 57) refl h
  where
    go : (x y : Bool) → ltb b 48 ≡ x → cond x 10 (cond y (b - 48) 10) < 10 → 48 + cond x 10 (cond y (b - 48) 10) ≡ b
    go true y e h = absurd (omega arith)
    go false false e h = absurd (omega arith)
    go false true e h = omega (arith, ltb-false b 48 e)

-- some bytes are their digits, and what follows them
digits_text : (l : List ℕ) → AllDigits (digits l) × (l ≡ shown (digits l) ++ drop (length (digits l)) l)
unfolding digits
digits_text [] = (tt, refl)
digits_text (b ∷ bs) = go (ltb (digit_of b) 10) refl (digits_text bs)
  where
    go : (x : Bool) → ltb (digit_of b) 10 ≡ x → AllDigits (digits bs) × (bs ≡ shown (digits bs) ++ drop (length (digits bs)) bs)
        → AllDigits (cond x (digit_of b ∷ digits bs) []) × (b ∷ bs ≡ shown (cond x (digit_of b ∷ digits bs) []) ++ drop (length (cond x (digit_of b ∷ digits bs) [])) (b ∷ bs))
    go true e ih = let h = ltb-true (digit_of b) 10 e in ((h, ih.0), rw (digit_back b h) (ap (λ (l : List ℕ). b ∷ l) ih.1))
    go false e ih = (tt, refl)

-- a number
pub number_text : (t : List ℕ) (p v c : ℕ) → number_at t p ≡ Some (v, c) → drop p t ≡ decimal v ++ drop c t
number_text t p v c e =
    let ds = digits (drop p t) in
    let read = number_digits t p v c e in
    let bytes = digits_text (drop p t) in
    bytes.1 ∙ rw (unpadded-decimal ds bytes.0 read.0, read.1, drop-drop (length ds) p t, read.3)

begins_text : (xs ys : List ℕ) → begins xs ys ≡ true → ys ≡ xs ++ drop (length xs) ys
unfolding begins
begins_text [] ys e = refl
begins_text (x ∷ xs) [] e = absurd cc
begins_text (x ∷ xs) (y ∷ ys) e = go (eqb y x) refl (λ k. begins_text xs ys k) e
  where
    go : (b : Bool) → eqb y x ≡ b → (begins xs ys ≡ true → ys ≡ xs ++ drop (length xs) ys) → b && begins xs ys ≡ true → y ∷ ys ≡ (x ∷ xs) ++ drop (length (x ∷ xs)) (y ∷ ys)
    go true k ih e = ap (λ (w : ℕ). w ∷ ys) (eqb-true y x k) ∙ ap (λ (l : List ℕ). x ∷ l) (ih e)
    go false k ih e = absurd cc

-- constant bytes
pub skip_text : (t : List ℕ) (p : ℕ) (bs : List ℕ) (c : ℕ) → skip_at t p bs ≡ Some c → drop p t ≡ bs ++ drop c t
skip_text t p bs c e =
    let found = skip_found t p bs c e in
    begins_text bs (drop p t) found.0 ∙ rw (drop-drop (length bs) p t, found.1)

-- a number between constant bytes
pub form_text : (t : List ℕ) (p : ℕ) (head tail : List ℕ) (v c : ℕ) → form_at t p head tail ≡ Some (v, c) → drop p t ≡ head ++ (decimal v ++ (tail ++ drop c t))
form_text t p head tail v c e =
    let f = form_parts t p head tail v c e in
    skip_text t p head f.first f.opened ∙ rw (number_text t f.first v f.last f.number, skip_text t f.last tail c f.closed)

-- a list
pub list_text : (t : List ℕ) (p c : ℕ) → (list_at t p).next ≡ Some c → drop p t ≡ spelled_list (list_at t p).values ++ drop c t
unfolding spelled_list
list_text t p c =
    list_ind t (λ p r. r.next ≡ Some c → drop p t ≡ spelled_list r.values ++ drop c t)
    (λ p e. let z : p ≡ c = cc in ap (λ (q : ℕ). drop q t) z)
    (λ p e. absurd cc)
    (λ p v d r s n ih e.
    drop-cons t p 0 (space_in t p s)
    ∙ ap (λ (b : ℕ). b ∷ drop (suc p) t) s
    ∙ ap (λ (l : List ℕ). 32 ∷ l) (ap (λ (q : ℕ). drop q t) (sym (add-one p)) ∙ number_text t (p + 1) v d n ∙ rw (ih e) (sym (append_assoc (decimal v) (spelled_list r.values) (drop c t)))))
    p

-- every number of a list is at most 65,535
pub list-small : (t : List ℕ) (p w : ℕ) → In w (list_at t p).values → w ≤ 65535
list-small t p w =
    list_ind t (λ p r. In w r.values → w ≤ 65535)
    (λ p i. absurd i)
    (λ p i. absurd i)
    (λ p v c r s n ih. ⊎_elim (λ e. omega (arith, number_small t (p + 1) v c n)) ih)
    p

-- ---- what is spelled is read

-- past a part of the text
pub past : (t : List ℕ) (p : ℕ) (xs rest : List ℕ) → drop p t ≡ xs ++ rest → drop (p + length xs) t ≡ rest
past t p xs rest e = sym (drop-drop (length xs) p t) ∙ ap (drop (length xs)) e ∙ drop-append_seam xs rest

begins-append : (xs rest : List ℕ) → begins xs (xs ++ rest) ≡ true
unfolding begins
begins-append [] rest = refl
begins-append (x ∷ xs) rest = rw (eq-eqb x x refl) (begins-append xs rest)

pub skip_spelled : (t : List ℕ) (p : ℕ) (bs rest : List ℕ) → drop p t ≡ bs ++ rest → skip_at t p bs ≡ Some (p + length bs)
skip_spelled t p bs rest e = rw (e, begins-append bs rest)

-- digits with a first one above 0 that make v
record Digits (v : ℕ) : Type 0 where
  ds : List ℕ
  all : AllDigits ds
  first : unpadded ds ≡ true
  worth : value 0 ds ≡ v

value_snoc : (v : ℕ) (ds : List ℕ) (d : ℕ) → value v (ds ++ d ∷ []) ≡ value v ds * 10 + d
value_snoc v [] d = refl
value_snoc v (e ∷ ds) d = value_snoc (v * 10 + e) ds d

all_snoc : (ds : List ℕ) (d : ℕ) → AllDigits ds → d < 10 → AllDigits (ds ++ d ∷ [])
all_snoc [] d h k = (k, tt)
all_snoc (e ∷ ds) d h k = (h.0, all_snoc ds d h.1 k)

-- digits of a number above 0 stay unpadded with one more behind them
unpadded_snoc : (ds : List ℕ) (d : ℕ) → unpadded ds ≡ true → 0 < value 0 ds → unpadded (ds ++ d ∷ []) ≡ true
unpadded_snoc [] d u h = absurd cc
unpadded_snoc (e ∷ []) d u h = rw (ne_eqb e 0 (λ z. omega arith))
unpadded_snoc (e ∷ f ∷ ds) d u h = u

-- every number has such digits
digits_for : (more v : ℕ) → v ≤ more → Digits v
digits_for zero v h = record { ds = v ∷ []; all = (omega arith, tt); first = refl; worth = omega arith }
digits_for (suc more) v h = go (ltb v 10) refl (λ w b. digits_for more w (omega arith))
  where
    go : (b : Bool) → ltb v 10 ≡ b → ((w : ℕ) → w < v → Digits w) → Digits v
    go true e ih = record { ds = v ∷ []; all = (ltb-true v 10 e, tt); first = refl; worth = omega arith }
    go false e ih =
        let big = ltb-false v 10 e in
        let front = ih (v / 10) (omega arith) in
        record {
          ds = front.ds ++ v % 10 ∷ [];
          all = all_snoc front.ds (v % 10) front.all (omega arith);
          first = unpadded_snoc front.ds (v % 10) front.first (omega (arith, front.worth));
          worth = value_snoc 0 front.ds (v % 10) ∙ omega (arith, front.worth);
        }

digit-on : (d : ℕ) → d < 10 → digit_of (48 + d) ≡ d
digit-on d h = rw (le-ltb (48 + d) 48 (omega arith), le-leb (48 + d) 57 (omega arith)) (omega arith)

digits-on : (ds : List ℕ) (b : ℕ) (rest : List ℕ) → AllDigits ds → 10 ≤ digit_of b → digits (shown ds ++ (b ∷ rest)) ≡ ds
unfolding digits
digits-on [] b rest h k = rw (le-ltb (digit_of b) 10 k)
digits-on (d ∷ ds) b rest h k = rw (digit-on d h.0, lt-ltb d 10 h.0) (ap (λ (l : List ℕ). d ∷ l) (digits-on ds b rest h.1 k))

length-shown : (ds : List ℕ) → length (shown ds) ≡ length ds
length-shown [] = refl
length-shown (d ∷ ds) = ap suc (length-shown ds)

-- a number with a byte behind it that is no digit
pub number_spelled : (t : List ℕ) (p v b : ℕ) (rest : List ℕ) → drop p t ≡ decimal v ++ (b ∷ rest) → v ≤ 65535 → 10 ≤ digit_of b → number_at t p ≡ Some (v, (p + length (decimal v)))
unfolding number_of
number_spelled t p v b rest e h k =
    let d = digits_for v v (omega arith) in
    let show : decimal v ≡ shown d.ds = ap decimal (sym d.worth) ∙ sym (unpadded-decimal d.ds d.all d.first) in
    let read : digits (drop p t) ≡ d.ds = rw (e, show) (digits-on d.ds b rest d.all k) in
    rw (read, d.first, d.worth, le-leb v 65535 h, show, length-shown d.ds)

-- a number between constant bytes
pub form_spelled :
    (t : List ℕ) (p : ℕ) (head : List ℕ) (v b : ℕ) (bs rest : List ℕ) → drop p t ≡ head ++ (decimal v ++ ((b ∷ bs) ++ rest)) → v ≤ 65535 → 10 ≤ digit_of b
    → (c : ℕ) × (form_at t p head (b ∷ bs) ≡ Some (v, c)) × (drop c t ≡ rest)
unfolding form_at
form_spelled t p head v b bs rest e h k =
    let first = p + length head in
    let last = first + length (decimal v) in
    let e₁ = past t p head (decimal v ++ ((b ∷ bs) ++ rest)) e in
    let e₂ = past t first (decimal v) ((b ∷ bs) ++ rest) e₁ in (
      (last + length (b ∷ bs)),
      rw (skip_spelled t p head (decimal v ++ ((b ∷ bs) ++ rest)) e, number_spelled t first v b (bs ++ rest) e₁ h k, skip_spelled t last (b ∷ bs) rest e₂),
      past t last (b ∷ bs) rest e₂,
    )

byte_spelled : (t : List ℕ) (p b : ℕ) (rest : List ℕ) → drop p t ≡ b ∷ rest → get_or t p 0 ≡ b
byte_spelled t p b rest e = ap (λ (k : ℕ). get_or t k 0) (sym (add-zero p)) ∙ sym (get_or-drop p t 0 0) ∙ ap (λ (l : List ℕ). get_or l 0 0) e

-- a list with `)` behind it
pub list_spelled :
    (t : List ℕ) (vs : List ℕ) (p : ℕ) (rest : List ℕ) → drop p t ≡ spelled_list vs ++ (41 ∷ rest) → ((w : ℕ) → In w vs → w ≤ 65535)
    → (c : ℕ) × (list_at t p ≡ record { values = vs; next = Some c }) × (drop c t ≡ 41 ∷ rest)
unfolding spelled_list
list_spelled t [] p rest e h = (p, list-end t p (λ k. let z = byte_spelled t p 41 rest e in omega arith), e)
list_spelled t (v ∷ vs) p rest e h =
    let space = byte_spelled t p 32 ((decimal v ++ spelled_list vs) ++ (41 ∷ rest)) e in
    let e₁ : drop (p + 1) t ≡ decimal v ++ (spelled_list vs ++ (41 ∷ rest)) = past t p (32 ∷ []) ((decimal v ++ spelled_list vs) ++ (41 ∷ rest)) e ∙ append_assoc (decimal v) (spelled_list vs) (41 ∷ rest) in
    let next : ℕ = p + 1 + length (decimal v) in
    let number : number_at t (p + 1) ≡ Some (v, (p + 1 + length (decimal v))) = go vs e₁ in
    let i = list_spelled t vs next rest (past t (p + 1) (decimal v) (spelled_list vs ++ (41 ∷ rest)) e₁) (λ w m. h w (inr m)) in
    (i.0, list-more t p v next space number ∙ ap (more v) i.1, i.2)
  where
    go : (vs : List ℕ) → drop (p + 1) t ≡ decimal v ++ (spelled_list vs ++ (41 ∷ rest)) → number_at t (p + 1) ≡ Some (v, (p + 1 + length (decimal v)))
    go [] e = number_spelled t (p + 1) v 41 rest e (h v (inl refl)) (omega arith)
    go (z ∷ zs) e = number_spelled t (p + 1) v 32 ((decimal z ++ spelled_list zs) ++ (41 ∷ rest)) e (h v (inl refl)) (omega arith)
