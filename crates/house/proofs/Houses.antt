-- A house from its parts. Assumes nothing.
use Rattle.std.proofs.Common.{◌≡◌, true, false, [], Some, None, Ok, Err, refl, sym, ap, ◌∙◌}
use Rattle.clearing.specs.Ledger.{allowances_of, lines_of}
use Rattle.house.proofs.Values.{lines_said, values_said}
use Rattle.house.specs.Built.{AccountsAdded, LayersBuilt, accounts_fit, margin_said, with_lines, with_values}
use Rattle.house.specs.House.{Base, HouseCentre, margin_of, rows_of}
use Rattle.house.specs.Read.{HouseMade, fits}
use Rattle.house.specs.Settings.{Written}
use Rattle.house.specs.Stop.{IsRefusal}
use Rattle.house.specs.declared.read.House.{House}
use Rattle.house.specs.declared.stop.Stop.{Stop}

-- b is a centre of the kind that is written, with no accounts
module _ (w : Written) (b : Base) (kind : margin_said w.kind ≡ Some (margin_of b)) (none : rows_of b ≡ []) where
  pub no_accounts : (b' : Base) (e : Stop) → AccountsAdded b w.accounts b' (Err e) → IsRefusal e → fits w ≡ false
  no_accounts b' e h refusal =
      let not' : accounts_fit w.accounts (margin_of b) 0 (λ a. None) ≡ false = rw none at h refusal in
      rw (kind, not') refl

  -- with its accounts, and with firm caps over it, it is the house that is written, or there is one that it does not take
  pub made : (b' : Base) (c : HouseCentre) (h : House) → AccountsAdded b w.accounts b' (Ok tt) → c.below ≡ b' → LayersBuilt c w.layers h.centre (Ok tt) → h.rule ≡ w.rule → HouseMade w (Ok h)
  made b' c h (fit, lines, values, margin) over (fit', layers, below) rule =
      let at : h.centre.below ≡ b' = below ∙ over in
      let fit0 : accounts_fit w.accounts (margin_of b) 0 (λ a. None) ≡ true = rw none at fit in
      let lines0 : lines_of (rows_of b') ≡ with_lines w.accounts (λ a. None) = rw none at lines in
      let values0 : allowances_of (rows_of b') ≡ with_values w.accounts (λ a. None) = rw none at values in (
        rw (kind, fit0, fit') refl,
        (rule, rw at (kind ∙ ap Some (sym margin)), rw at (λ a. ap (λ f. f a) values0 ∙ values_said w.accounts a), rw at (λ a. ap (λ f. f a) lines0 ∙ lines_said w.accounts a), layers),
      )

  pub no_layers : (b' : Base) (c c' : HouseCentre) (e : Stop) → AccountsAdded b w.accounts b' (Ok tt) → LayersBuilt c w.layers c' (Err e) → IsRefusal e → fits w ≡ false
  no_layers b' c c' e (fit, lines, values, margin) h refusal =
      let fit0 : accounts_fit w.accounts (margin_of b) 0 (λ a. None) ≡ true = rw none at fit in
      rw (kind, fit0, h refusal) refl
