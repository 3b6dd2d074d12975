-- Whether two records mean the same: document 01, "Descriptors are compared by their meaning".
-- A reference r of the one stands for g r, and s of the other for h s; every other field is compared as it is.
-- Assumes nothing.
use Rattle.std.specs.Prelude.{Bool, true, false, ◌&&◌, List, [], ◌∷◌, ℕ}
use Rattle.std.proofs.Math.Option.{Option, none, some}
use Rattle.number.specs.Choice.{◌=?◌}
use Rattle.key.specs.Word.{same_word}
use Rattle.reader.specs.Values.{Ty, simple, interface, interface_is, array, sized, Param, param, Signature, signature, Method, method, Constant, constant, Descriptor, descriptor}

-- as many of the one as of the other, and each the same as its counterpart
unfoldable pub same_list : {X : Type 0} → (X → X → Bool) → List X → List X → Bool
same_list same [] [] = true
same_list same [] (y ∷ ys) = false
same_list same (x ∷ xs) [] = false
same_list same (x ∷ xs) (y ∷ ys) = same x y && same_list same xs ys

unfoldable pub same_constant : Constant → Constant → Bool
same_constant (constant v k a) (constant w l b) = same_word v w && (k =? l && a =? b)

module _ (g h : ℕ → ℕ) where
  unfoldable pub same_ty : Ty ℕ → Ty ℕ → Bool
  same_ty (simple b) (simple c) = b =? c
  same_ty (simple b) (interface c s) = false
  same_ty (simple b) (interface_is c i) = false
  same_ty (simple b) (array c i j u) = false
  same_ty (simple b) (sized c i j) = false
  same_ty (interface b r) (simple c) = false
  same_ty (interface b r) (interface c s) = b =? c && g r =? h s
  same_ty (interface b r) (interface_is c i) = false
  same_ty (interface b r) (array c i j u) = false
  same_ty (interface b r) (sized c i j) = false
  same_ty (interface_is b a) (simple c) = false
  same_ty (interface_is b a) (interface c s) = false
  same_ty (interface_is b a) (interface_is c i) = b =? c && a =? i
  same_ty (interface_is b a) (array c i j u) = false
  same_ty (interface_is b a) (sized c i j) = false
  same_ty (array b x y t) (simple c) = false
  same_ty (array b x y t) (interface c s) = false
  same_ty (array b x y t) (interface_is c i) = false
  same_ty (array b x y t) (array c i j u) = b =? c && (x =? i && (y =? j && same_ty t u))
  same_ty (array b x y t) (sized c i j) = false
  same_ty (sized b x y) (simple c) = false
  same_ty (sized b x y) (interface c s) = false
  same_ty (sized b x y) (interface_is c i) = false
  same_ty (sized b x y) (array c i j u) = false
  same_ty (sized b x y) (sized c i j) = b =? c && (x =? i && y =? j)

  unfoldable pub same_param : Param ℕ → Param ℕ → Bool
  same_param (param f t) (param i u) = f =? i && same_ty t u

  unfoldable pub same_signature : Signature ℕ → Signature ℕ → Bool
  same_signature (signature ps r) (signature qs s) = same_list same_param ps qs && same_param r s

  unfoldable pub same_method : Method ℕ → Method ℕ → Bool
  same_method (method f v s) (method i w t) = f =? i && (same_word v w && same_signature s t)

  unfoldable pub same_parent : Option ℕ → Option ℕ → Bool
  same_parent none none = true
  same_parent none (some s) = false
  same_parent (some r) none = false
  same_parent (some r) (some s) = g r =? h s

  unfoldable pub same_descriptor : Descriptor ℕ → Descriptor ℕ → Bool
  same_descriptor (descriptor up ms ks f) (descriptor un ns ls i) = same_parent up un && (same_list same_method ms ns && (same_list same_constant ks ls && f =? i))
