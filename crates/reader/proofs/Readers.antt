-- What a reader owns is what its text and its position own: steps for a walk over code that takes or makes a reader. Assumes nothing.
use mathlib.Core.Path.{◌≡◌, refl}
use Prim.Native.Nat.{◌<◌, ◌^◌}
use mathlib.Core.List.{List, [], ◌∷◌}
use lib.ListN.{length}
use seplogic.Ra.Ura.{Ura}
use mir.Syntax.{named, w8, w64}
use mir.Val.{Val, vint}
use base.Logic.{SProp, ent, sep, ex, emp, id⊢}
use base.Fml.{Lft, Share, Fml, ftrue, fsep, flft}
use types.Logic.{Logic, sem}
use contract.Lifetimes.{Lfts}
use contract.Monad.{fact}
use types.Kit.{Item, ‵, raw, ◌⊛◌, ⋆, some, given, later, Goal, Soaks, Seq, ◌$◌, ◌∵◌, !, qed, move, drop, use1, use2, split, join, pick, learn, fsplit, fjoin, frame, await, done}
use denote.RattleType.{RattleType, Valss, owns}
use denote.Laws.{Is, shows}
use denote.Plain.{uint_Makes, uint_row_laws}
use denote.Builtin.{u8, usize}
use denote.Ref.{NamedLft}
use denote.Signature.{named_lft}
use denote.Slice.{slice_val, ShrSlice, shr_slice_copy}
use denote.Steps.{nothing, owned, peeks, heard}
use denote.Struct.Declared.{Declared}
use denote.Struct.Laws as struct_laws
use denote.Struct.Rest.{all_own, own_open, own_shut}
use denote.Struct.Values.{Values}
use Rattle.reader.specs.declared.Reader.{Reader}
use Rattle.reader.specs.contracts.Reader as reader
use Rattle.reader.proofs.Reader.TheLaws as reader-laws

-- the lifetime of the text, the only one of each signature
abbrev pub lifetime : Lfts 1 → NamedLft
lifetime κs = named_lft 1 0 tt κs

-- its token, which is lent to every call and comes back
abbrev pub token : {M : Type 1} {𝓤 : Ura M} → Lft → Share → Item 𝓤
token κ q = ‵ (flft κ q) ⊛ ‵ ftrue

-- a reader, as a signature has it
abbrev pub Held : Lfts 1 → RattleType
Held κs = reader.the_row (lifetime κs)

-- a text and a position, as the covered functions have them
abbrev pub Apart : Lft → List RattleType
Apart κ = ShrSlice (named 0) κ u8 ∷ usize ∷ []

-- the machine values of a reader's text and position
abbrev pub text_value : Reader → Val
text_value r = slice_val r.text.ref_ptr (length r.text.now)

abbrev pub values : (κ : Lft) → Reader → Valss (Apart κ)
values κ r = (text_value r ∷ [], (vint w64 r.at ∷ [], tt))

-- what the text owns, what a reader owns, and what its text and position own
abbrev pub text_owns : Lft → Reader → Fml
text_owns κ r = (ShrSlice (named 0) κ u8).own_val r.text (text_value r ∷ [])

abbrev pub reader_owns : Lft → Reader → Fml
reader_owns κ r = (Held (κ, tt)).own_val r (reader-laws.lowered r ∷ [])

abbrev pub parts_own : Lft → Reader → Fml
parts_own κ r = owns (Apart κ) (r.text, (r.at, tt)) (values κ r)

module _ {M : Type 1} {𝓤 : Ura M} (𝓛 : Logic 𝓤) (κ : Lft) (q : Share) where
  -- what a call asks that is passed what owns F, and whose contract requires nothing
  abbrev pub asks : Fml → SProp 𝓤
  asks F = sep 𝓤 (⋆ 𝓛 (token κ q ∷ ‵ F ∷ [])) (emp 𝓤)

module _ {M : Type 1} {𝓤 : Ura M} (𝓛 : Logic 𝓤) (κ : Lft) (q : Share) (r : Reader) where
  abbrev type : Declared
  type = reader.the_type (lifetime (κ, tt))

  abbrev laws : struct_laws.Laws type
  laws = reader-laws.the_laws (lifetime (κ, tt))

  abbrev fields : Values type.parts
  fields = (r.text, (r.at, tt))

  abbrev passed : Fml
  passed = owns (Held (κ, tt) ∷ []) (r, tt) (reader-laws.lowered r ∷ [], tt)

  asked : (F : Fml) → ent 𝓤 (⋆ 𝓛 (token κ q ∷ ‵ F ∷ [])) (asks 𝓛 κ q F)
  asked F = qed 𝓛 (token κ q ∷ ‵ F ∷ []) ∵ join ! $ frame ! $ done !

  -- a reader is Copy: one copy is opened into what its parts own, for a call that takes them, and the other stays
  pub taken_apart : ent 𝓤 (⋆ 𝓛 (token κ q ∷ ‵ passed ∷ [])) (sep 𝓤 (asks 𝓛 κ q (parts_own κ r)) (sem 𝓛 (reader_owns κ r)))
  taken_apart =
      qed 𝓛 (token κ q ∷ ‵ passed ∷ []) ∵ move ! (1 ∷ []) $ fsplit ! $ move ! (1 ∷ []) $ drop ! $
      use1 𝓛 (‵ (reader_owns κ r) ⊛ ‵ (reader_owns κ r)) ((struct_laws.copy type (reader-laws.the_copy (lifetime (κ, tt))) 𝓛).twice r (reader-laws.lowered r ∷ [])) $ split ! $
      use1 𝓛 (given (reader-laws.lowered r ∷ [] ≡ reader-laws.lowered r ∷ []) (‵ (all_own type.parts laws fields))) (own_open 𝓛 type laws fields (reader-laws.lowered r)) $
      -- [the parts; the reader; the token]
      learn ! (λ _. move ! (2 ∷ 0 ∷ []) $ use2 𝓛 (raw (asks 𝓛 κ q (parts_own κ r))) (asked (parts_own κ r)) $ frame ! $ done !)

  -- a text is Copy: one copy and a position make a reader, for a call that takes it, and the other stays with what else was passed
  pub put_together : r.at < 2 ^ 64 → (F : Fml) → ent 𝓤 (⋆ 𝓛 (token κ q ∷ ‵ (fsep (text_owns κ r) F) ∷ [])) (sep 𝓤 (asks 𝓛 κ q passed) (sem 𝓛 (fsep (text_owns κ r) F)))
  put_together fits F =
      qed 𝓛 (token κ q ∷ ‵ (fsep (text_owns κ r) F) ∷ []) ∵ move ! (1 ∷ []) $ fsplit ! $
      use1 𝓛 (‵ (text_owns κ r) ⊛ ‵ (text_owns κ r)) ((shr_slice_copy 𝓛 (named 0) κ u8 (uint_row_laws w8)).twice r.text (text_value r ∷ [])) $ split ! $
      -- [the text; the text; what else was passed; the token]
      move ! (1 ∷ 2 ∷ []) $ fjoin ! $ move ! (1 ∷ []) $
      nothing ! $ owned ! usize (Is usize) (uint_Makes 𝓛 w64) r.at _ (refl, fits) $ fjoin ! $ move ! (1 ∷ 0 ∷ []) $ fjoin ! $
      use1 𝓛 (‵ (reader_owns κ r)) (own_shut 𝓛 type laws fields) $ nothing ! $ move ! (1 ∷ 0 ∷ []) $ fjoin ! $
      -- [the reader; what was passed; the token]
      move ! (2 ∷ 0 ∷ []) $ use2 𝓛 (raw (asks 𝓛 κ q passed)) (asked passed) $ frame ! $ done !

module _ {M : Type 1} {𝓤 : Ura M} {𝓛 : Logic 𝓤} {K : Type 0} {Γ : List (Item 𝓤)} {G : Goal 𝓤 𝓛.H} where
  -- a call is back with the machine value v: it is that of some x, of which the contract tells φ, and the token is had again
  open 𝓛 use {H}

  pub answered : K → Soaks G → (κ : Lft) (q : Share) (R : RattleType) (v : Val) (ensures : R.Denot → SProp 𝓤) (φ : R.Denot → Type 0)
      → ((x : R.Denot) → ent 𝓤 (ensures x) (fact 𝓤 (φ x)))
      → ((x : R.Denot) → φ x → Is R x (v ∷ []) → Seq K 𝓛 (‵ (R.own_val x (v ∷ [])) ∷ token κ q ∷ Γ) G)
      → Seq K 𝓛 (raw (H.⇛ (ex 𝓤 (λ (x : R.Denot). sep 𝓤 (⋆ 𝓛 (token κ q ∷ ‵ (R.own_val x (v ∷ [])) ∷ [])) (ensures x)))) ∷ Γ) G
  answered go soaks κ q R v ensures φ told further =
      use1 𝓛 (later (some (λ (x : R.Denot). (token κ q ⊛ ‵ (R.own_val x (v ∷ []))) ⊛ raw (ensures x)))) (id⊢ 𝓤 _) $ await go soaks $ pick go (λ x.
      split go $ move go (1 ∷ []) $ use1 𝓛 (raw (fact 𝓤 (φ x))) (told x) $ heard go (φ x) (λ e.
      split go $ move go (1 ∷ []) $ peeks go R (Is R) (shows 𝓛 R) x (v ∷ []) (further x e)))
