-- The laws of two families as one.
use Rattle.std.specs.Prelude.{◌≡◌, Some, None, Option, refl}
use Rattle.std.proofs.Common.{sym, ap, ◌∙◌}
use Rattle.std.specs.Option.{option_map}
use Rattle.catalogue.specs.declared.row.Row.{Row}
use Rattle.versioning.specs.declared.family.pair.Either.{Either}
use Rattle.versioning.specs.Families.{EitherSound, either_kind, either_packed, either_unpacked}

module _ {V W K L : Type 0} (pack : V → Row) (other : W → Row) (unpack : K → Row → Option V) (unother : L → Row → Option W) where
  pub either_unpacks : (kind : V → K) (kind-other : W → L) (sound : V → Type 0) (sound-other : W → Type 0) →
      ((v : V) → sound v → unpack (kind v) (pack v) ≡ Some v) →
      ((w : W) → sound-other w → unother (kind-other w) (other w) ≡ Some w) →
      (x : Either V W) → EitherSound sound sound-other x → either_unpacked unpack unother (either_kind kind kind-other x) (either_packed pack other x) ≡ Some x
  either_unpacks kind kind-other sound sound-other f g (Either.First v) s = ap (option_map (λ y. Either.First y)) (f v s)
  either_unpacks kind kind-other sound sound-other f g (Either.Second w) s = ap (option_map (λ y. Either.Second y)) (g w s)

  pub either_packs : ((k : K) (r : Row) (v : V) → unpack k r ≡ Some v → pack v ≡ r) → ((l : L) (r : Row) (w : W) → unother l r ≡ Some w → other w ≡ r) →
      (kind : Either K L) (r : Row) (x : Either V W) → either_unpacked unpack unother kind r ≡ Some x → either_packed pack other x ≡ r
  either_packs f g (Either.First k) r x e = go (unpack k r) refl e
    where
      go : (o : Option V) → unpack k r ≡ o → option_map (λ y. Either.First y) o ≡ Some x → either_packed pack other x ≡ r
      go None h e = cc
      go (Some v) h e =
          let same : Either.First v ≡ x = cc in
          ap (either_packed pack other) (sym same) ∙ f k r v h
  either_packs f g (Either.Second l) r x e = go (unother l r) refl e
    where
      go : (o : Option W) → unother l r ≡ o → option_map (λ y. Either.Second y) o ≡ Some x → either_packed pack other x ≡ r
      go None h e = cc
      go (Some w) h e =
          let same : Either.Second w ≡ x = cc in
          ap (either_packed pack other) (sym same) ∙ g l r w h
