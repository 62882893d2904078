-- Bytes of a block of which the first so many were written.
use Rattle.std.proofs.Common.{◌≡◌, ℕ, zero, suc, ◌≤◌, Bool, true, false, List, [], ◌∷◌, ◌++◌, Some, refl, sym, ap, ◌∙◌, length, take, drop, arith, Vec}
use Rattle.std.specs.Prelude.{option_map}
use Rattle.std.specs.List.{refill}
use Rattle.std.specs.Vec.{with_items_from}
use Rattle.std.proofs.lemmas.List.{length-append, length-drop, length-take-le, take-append-le, take-take}
use Rattle.byte_pool.specs.Blocks.{BlockState, lent_part, written}

-- what lies behind the part does not matter
behind : (len : ℕ) (xs ws : List ℕ) → len ≤ length xs → take len (ws ++ drop (length ws) xs) ≡ take len (ws ++ drop (length ws) (take len xs))
behind len xs [] l = sym (take-take len len xs (omega arith))
behind zero xs (w ∷ ws) l = refl
behind (suc n) [] (w ∷ ws) l = absurd (omega arith)
behind (suc n) (x ∷ xs) (w ∷ ws) l = ap (λ ys. w ∷ ys) (behind n xs ws (omega arith))

refilled : (is_lent : Bool) (len : ℕ) (xs ws : List ℕ) → len ≤ length xs → lent_part is_lent len (ws ++ drop (length ws) xs) ≡ option_map (λ old. refill (length old) old ws) (lent_part is_lent len xs)
refilled false len xs ws l = refl
refilled true len xs ws l = ap Some (behind len xs ws l ∙ ap (λ n. take n (ws ++ drop (length ws) (take len xs))) (sym (length-take-le len xs l)))

-- the bytes of a `Vec` with ws written over its first ones
over : {Z : Type 0} (v : Vec ℕ Z) (is_lent : Bool) (len : ℕ) (ws : List ℕ) → len ≤ length v.items → lent_part is_lent len (with_items_from v 0 ws).items ≡ lent_part is_lent len (ws ++ drop (length ws) v.items)
over v false len ws l = refl
over v true len ws l =
    let whole = length-append ws (drop (length ws) v.items) in
    let rest = length-drop (length ws) v.items in
    let same = v.ok.0 in
    ap Some (take-take len v.len (((ws ++ drop (length ws) v.items)) ++ drop (length (ws ++ drop (length ws) v.items)) v.items) (omega arith) ∙ take-append-le len (ws ++ drop (length ws) v.items) _ (omega arith))

pub view-written : {Z : Type 0} (v : Vec ℕ Z) (is_lent : Bool) (len : ℕ) (ws : List ℕ) (now : BlockState) → len ≤ length v.items
    → (let b : BlockState = record { size = length v.items; lent = lent_part is_lent len v.items } in b) ≡ now
    → (let b : BlockState = record { size = length (with_items_from v 0 ws).items; lent = lent_part is_lent len (with_items_from v 0 ws).items } in b) ≡ written now ws
view-written v is_lent len ws now l view =
    let long : length (with_items_from v 0 ws).items ≡ length v.items = sym (with_items_from v 0 ws).ok.0 ∙ v.ok.0 in
    let lent = over v is_lent len ws l ∙ refilled is_lent len v.items ws l in
    (λ t. record { size = long t; lent = lent t }) ∙ ap (λ (b : BlockState). written b ws) view
