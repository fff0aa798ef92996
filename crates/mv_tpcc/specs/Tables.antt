-- The tables of TPC-C 5.11 as this project has them. docs/TPCC.md says what was left out.
use Rattle.std.specs.Prelude.{ℕ, List, [], ◌∷◌, codes}
use Rattle.mv_values.specs.Texts.{lines_text}

unfoldable pub tables : List ℕ
tables = lines_text (
    codes "CREATE TABLE warehouse (w_id INT, w_name TEXT(10), w_tax INT, w_ytd INT, PRIMARY KEY (w_id));" ∷
    codes "CREATE TABLE district (d_w_id INT, d_id INT, d_name TEXT(10), d_tax INT, d_ytd INT," ∷
    codes "  d_next_o_id INT, PRIMARY KEY (d_w_id, d_id));" ∷
    codes "CREATE TABLE customer (c_w_id INT, c_d_id INT, c_id INT, c_first TEXT(16), c_middle TEXT(2)," ∷
    codes "  c_last TEXT(16), c_credit TEXT(2), c_discount INT, c_balance INT, c_ytd_payment INT," ∷
    codes "  c_payment_cnt INT, c_delivery_cnt INT, c_data TEXT(500), PRIMARY KEY (c_w_id, c_d_id, c_id));" ∷
    codes "CREATE TABLE history (h_id INT, h_c_id INT, h_c_d_id INT, h_c_w_id INT, h_d_id INT, h_w_id INT," ∷
    codes "  h_date INT, h_amount INT, h_data TEXT(24), PRIMARY KEY (h_id));" ∷
    codes "CREATE TABLE new_order (no_w_id INT, no_d_id INT, no_o_id INT," ∷
    codes "  PRIMARY KEY (no_w_id, no_d_id, no_o_id));" ∷
    codes "CREATE TABLE orders (o_w_id INT, o_d_id INT, o_id INT, o_c_id INT, o_entry_d INT," ∷
    codes "  o_carrier_id INT, o_ol_cnt INT, o_all_local INT, PRIMARY KEY (o_w_id, o_d_id, o_id));" ∷
    codes "CREATE TABLE order_line (ol_w_id INT, ol_d_id INT, ol_o_id INT, ol_number INT, ol_i_id INT," ∷
    codes "  ol_supply_w_id INT, ol_delivery_d INT, ol_quantity INT, ol_amount INT," ∷
    codes "  PRIMARY KEY (ol_w_id, ol_d_id, ol_o_id, ol_number));" ∷
    codes "CREATE TABLE item (i_id INT, i_name TEXT(24), i_price INT, i_data TEXT(50), PRIMARY KEY (i_id));" ∷
    codes "CREATE TABLE stock (s_w_id INT, s_i_id INT, s_quantity INT, s_ytd INT, s_order_cnt INT," ∷
    codes "  s_remote_cnt INT, s_data TEXT(50), PRIMARY KEY (s_w_id, s_i_id));" ∷ [])
